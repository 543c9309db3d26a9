-- The marks that heads give, of all stored epochs and of the last ones.
use Rattle.std.proofs.Common.{◌≡◌, ℕ, zero, suc, ◌+◌, ◌-◌, ◌<◌, ◌≤◌, ◌==◌, List, [], ◌∷◌, Bool, true, false, ◌||◌, if◌then◌else◌, Option, Some, None, refl, sym, ap, subst, ◌∙◌, ⊎_elim, arith, drop, map, nat_le}
use Rattle.std.specs.List.{slice_get, count_by, list_any}
use Rattle.std.specs.Option.{option_map}
use Rattle.std.specs.Str.{bytes_eq}
use Rattle.std.proofs.lemmas.List.{length-map}
use Rattle.std.proofs.lemmas.Option.{slice_get-map, same_Some}
use Rattle.std.proofs.lemmas.Bool.{and_parts, cases_Bool, eqb-true, le-leb, leb-true, or_left, or_right}
use Rattle.std.proofs.lemmas.Slice.Eq.{bytes_eq-Decides}
use Rattle.coniks_proof.specs.declared.values.Head.{Head}
use Rattle.coniks_chain.specs.Entries.{link_preimage}
use Rattle.coniks_client.specs.Comparing.{HasHead}
use Rattle.coniks_client.specs.StoredEntry.{IsChain, entries_in, entry_in, epoch_in}
use Rattle.coniks_client.specs.declared.stored.StoredEntry.{StoredEntry}
use Rattle.coniks_client.proofs.Lemmas.{entry_at, linked_of}
use Rattle.coniks_quorum.specs.Auditors.{Auditor}
use Rattle.coniks_quorum.specs.Marks.{HasMark, has_head, mark_of}
use Rattle.coniks_quorum.specs.Laws.{CutLaw, HeadsLaw}
use Rattle.coniks_quorum.proofs.CountLemmas.{count-no, count-wider, count-yes}
use Rattle.coniks_quorum.proofs.ListLemmas.{of_drop}
use Rattle.coniks_quorum.proofs.QuorumLemmas.{not_after}

-- an element that passes
pub any_at : {X : Type 0} (p : X → Bool) (xs : List X) → list_any p xs ≡ true → (k : ℕ) × (x : X) × (slice_get xs k ≡ Some x) × (p x ≡ true)
any_at p [] is = absurd (cc)
any_at p (x ∷ xs) is = ⊎_elim
    (λ (here : p x ≡ true). (0, x, refl, here))
    (λ (not_here : p x ≡ false).
    let rest : list_any p xs ≡ true = sym (ap (λ (b : Bool). b || list_any p xs) not_here) ∙ is in
    let found = any_at p xs rest in
    (suc found.0, found.1, found.2, found.3))
    (cases_Bool (p x))

pub any_from : {X : Type 0} (p : X → Bool) (xs : List X) (k : ℕ) (x : X) → slice_get xs k ≡ Some x → p x ≡ true → list_any p xs ≡ true
any_from p [] k x at is = absurd (cc)
any_from p (y ∷ xs) zero x at is = or_left (p y) (list_any p xs) (ap p (same_Some y x at) ∙ is)
any_from p (y ∷ xs) (suc k) x at is = or_right (p y) (list_any p xs) (any_from p xs k x at is)

-- what the test says
pub head_of : (hash : List ℕ → List ℕ) (head : Head) (mine : StoredEntry) → has_head hash head mine ≡ true → HasHead hash mine head
head_of hash head mine is =
    let parts = and_parts (nat_eq_test mine) (bytes_eq (hash (link_preimage (entry_in mine))) head.link.0) is in
    record { epoch = eqb-true (epoch_in mine) head.epoch parts.0; link = (bytes_eq-Decides (hash (link_preimage (entry_in mine))) head.link.0).0 parts.1 }
  where
    nat_eq_test : StoredEntry → Bool
    nat_eq_test mine = epoch_in mine == head.epoch

-- an equal head reaches an epoch
pub yes_at : (b : Bool) (t e : ℕ) → 0 < e → nat_le e (if b then t else 0) ≡ true → (b ≡ true) × (e ≤ t)
yes_at true t e above is = (refl, leb-true e t is)
yes_at false t e above is = let le = leb-true e 0 is in absurd (omega arith)

pub yes_from : (b : Bool) (t e : ℕ) → b ≡ true → e ≤ t → nat_le e (if b then t else 0) ≡ true
yes_from true t e is le = le-leb e t le
yes_from false t e is le = absurd (cc)

-- heads that were cosigned give right marks
of_found : (hash : List ℕ → List ℕ) (stored : List StoredEntry) (auditor : Auditor) (found : Option (Option Head)) (mark : ℕ)
    → ((head : Head) → found ≡ Some (Some head) → (j : ℕ) × (slice_get auditor.cosigned j ≡ Some head))
    → option_map (mark_of hash stored) found ≡ Some mark → 0 < mark → HasMark hash stored auditor mark
of_found hash stored auditor None mark cosigned is above = absurd (cc)
of_found hash stored auditor (Some None) mark cosigned is above = let none : 0 ≡ mark = same_Some 0 mark is in absurd (omega arith)
of_found hash stored auditor (Some (Some head)) mark cosigned is above =
    let this : (if list_any (has_head hash head) stored then head.epoch else 0) ≡ mark = same_Some (if list_any (has_head hash head) stored then head.epoch else 0) mark is in
    let equal = yes_at (list_any (has_head hash head) stored) head.epoch mark above
    (subst (λ (m : ℕ). nat_le mark m ≡ true) (sym this) (le-leb mark mark (omega arith))) in
    let found = any_at (has_head hash head) stored equal.0 in
    let marked : (if true then head.epoch else 0) ≡ mark = ap (λ (b : Bool). if b then head.epoch else 0) (sym equal.0) ∙ this in
    record { head = head; cosigned = cosigned head refl; place = found.0; mine = found.1; there = found.2; has = head_of hash head found.1 found.3; epoch = marked }

pub heads : HeadsLaw
heads hash auditors stored all size cosigned = record {
  size = length-map all (mark_of hash stored) ∙ size;
  each = λ i auditor mark at_a at_m above. of_found hash stored auditor (slice_get all i) mark (λ head is. cosigned i head is auditor at_a)
      (sym (slice_get-map (mark_of hash stored) all i) ∙ at_m) above;
}

pub count-map : {X Y : Type 0} (p : Y → Bool) (f : X → Y) (xs : List X) → count_by p (map f xs) ≡ count_by (λ x. p (f x)) xs
count-map p f [] = refl
count-map p f (x ∷ xs) = ⊎_elim
    (λ (is : p (f x) ≡ true). count-yes p (f x) (map f xs) is ∙ ap (λ (n : ℕ). 1 + n) (count-map p f xs) ∙ sym (count-yes (λ y. p (f y)) x xs is))
    (λ (is : p (f x) ≡ false). count-no p (f x) (map f xs) is ∙ count-map p f xs ∙ sym (count-no (λ y. p (f y)) x xs is))
    (cases_Bool (p (f x)))

module _ (hash : List ℕ → List ℕ) (stored : List StoredEntry) (n : ℕ) (mine : StoredEntry) (e : ℕ) (chain : IsChain hash stored) (there : slice_get stored n ≡ Some mine)
    (le : epoch_in mine ≤ e) (above : 0 < e) where
  -- what the last ones confirm, all do
  fewer : (head : Option Head) → nat_le e (mark_of hash (drop n stored) head) ≡ true → nat_le e (mark_of hash stored head) ≡ true
  fewer None is = is
  fewer (Some head) is =
      let equal = yes_at (list_any (has_head hash head) (drop n stored)) head.epoch e above is in
      let found = any_at (has_head hash head) (drop n stored) equal.0 in
      yes_from (list_any (has_head hash head) stored) head.epoch e
      (any_from (has_head hash head) stored (n + found.0) found.1 (sym (of_drop stored n found.0) ∙ found.2) found.3) equal.1

  -- and the other way round, since a later epoch is not among the dropped ones
  no_fewer : (head : Option Head) → nat_le e (mark_of hash stored head) ≡ true → nat_le e (mark_of hash (drop n stored) head) ≡ true
  no_fewer None is = is
  no_fewer (Some head) is =
      let equal = yes_at (list_any (has_head hash head) stored) head.epoch e above is in
      let found = any_at (has_head hash head) stored equal.0 in
      let has = head_of hash head found.1 found.3 in
      let epoch = has.epoch in
      let late = equal.1 in
      let after = not_after hash (entries_in stored) (linked_of hash stored chain) n found.0 (entry_in mine) (entry_in found.1) (entry_at stored n mine there) (entry_at stored found.0 found.1 found.2) (omega arith) in
      let rest = found.0 - n in
      let place : n + rest ≡ found.0 = omega arith in
      yes_from (list_any (has_head hash head) (drop n stored)) head.epoch e
      (any_from (has_head hash head) (drop n stored) rest found.1 (of_drop stored n rest ∙ ap (slice_get stored) place ∙ found.2) found.3) equal.1

pub cut : CutLaw
cut hash stored all n mine e chain there le above =
    let left = count-map (λ (m : ℕ). nat_le e m) (mark_of hash (drop n stored)) all in
    let right = count-map (λ (m : ℕ). nat_le e m) (mark_of hash stored) all in
    let one = count-wider (λ (h : Option Head). nat_le e (mark_of hash (drop n stored) h)) (λ (h : Option Head). nat_le e (mark_of hash stored h)) all
    (λ k h at is. fewer hash stored n mine e chain there le above h is) in
    let two = count-wider (λ (h : Option Head). nat_le e (mark_of hash stored h)) (λ (h : Option Head). nat_le e (mark_of hash (drop n stored) h)) all
    (λ k h at is. no_fewer hash stored n mine e chain there le above h is) in
    omega arith
