-- The latest entry, signed again: what stays of a client's chain and its marks.
use Rattle.std.proofs.Common.{◌≡◌, ◌≢◌, ℕ, suc, ◌+◌, ◌-◌, ◌<◌, List, ◌++◌, length, length-append, map, set, take, drop, get_or, Bool, if◌then◌else◌, Option, Some, None, refl, sym, ap, subst, ◌∙◌, ⊎_elim, arith}
use Rattle.std.specs.List.{slice_get}
use Rattle.std.specs.Option.{option_map}
use Rattle.std.proofs.lemmas.Bool.{cases_eq, eq-eqb, ne_eqb}
use Rattle.std.proofs.lemmas.List.{drop-drop, drop-set-lt, get_or-drop, length-map, length-set, set-append_right}
use Rattle.std.proofs.lemmas.Option.{same_Some, slice_get-map, slice_get_within}
use Rattle.coniks_client.specs.Feeding.{IsSignedAgain}
use Rattle.coniks_client.specs.StoredEntry.{IsChain, entry_in, epoch_in}
use Rattle.coniks_client.specs.Steps.{with_latest}
use Rattle.coniks_client.specs.declared.stored.StoredEntry.{StoredEntry}
use Rattle.coniks_client.proofs.Lemmas.{again-chain, get-set_other}
use Rattle.coniks_quorum.specs.Auditors.{Auditor}
use Rattle.coniks_quorum.specs.Clients.{AgainLaw}
use Rattle.coniks_quorum.specs.Marks.{AreMarks, HasMark, unmarked}
use Rattle.coniks_quorum.proofs.ConfirmLemmas.{fill-more}
use Rattle.coniks_quorum.proofs.ListLemmas.{get-append_right}

-- a mark that is not 0 is the one before, at another epoch
unmarked-is : (epoch was mark : ℕ) → unmarked epoch was ≡ mark → 0 < mark → (was ≡ mark) × (was ≢ epoch)
unmarked-is epoch was mark is above = ⊎_elim
    (λ (here : was ≡ epoch). absurd (omega (arith, is, ap (λ (b : Bool). if b then 0 else was) (eq-eqb was epoch here))))
    (λ (apart : was ≢ epoch). (sym (ap (λ (b : Bool). if b then 0 else was) (ne_eqb was epoch apart)) ∙ is, apart))
    (cases_eq was epoch)

was_at : (epoch : ℕ) (marks : List ℕ) (i mark : ℕ) → slice_get (map (unmarked epoch) marks) i ≡ Some mark
    → (was : ℕ) × (slice_get marks i ≡ Some was) × (unmarked epoch was ≡ mark)
was_at epoch marks i mark at = by (slice_get marks i) (sym (slice_get-map (unmarked epoch) marks i) ∙ at)
  where
    by : (found : Option ℕ) → option_map (unmarked epoch) found ≡ Some mark → (was : ℕ) × (found ≡ Some was) × (unmarked epoch was ≡ mark)
    by None is = absurd (cc)
    by (Some was) is = (was, refl, same_Some (unmarked epoch was) mark is)

module _ (dropped stored : List StoredEntry) (latest mine : StoredEntry) (again : IsSignedAgain stored latest (entry_in mine)) where
  abbrev pub all : List StoredEntry
  all = dropped ++ stored

  last : length all - 1 ≡ length dropped + (length stored - 1)
  last =
      let size = length-append dropped stored in
      let within = slice_get_within stored (length stored - 1) latest again.there in
      omega arith

  -- the latest of all is the latest stored one
  pub again-all : IsSignedAgain all latest (entry_in mine)
  again-all = record {
    there = ap (slice_get all) last ∙ get-append_right dropped stored (length stored - 1) ∙ again.there;
    body = again.body;
    signature = again.signature;
  }

  pub latest-all : with_latest all mine ≡ dropped ++ with_latest stored mine
  latest-all =
      let place : length all - 1 - length dropped ≡ length stored - 1 = omega (arith, last) in
      set-append_right dropped stored (length dropped) (length all - 1) mine refl (omega (arith, last)) ∙ ap (λ (n : ℕ). dropped ++ set stored n mine) place

  pub still : (hash : List ℕ → List ℕ) (auditor : Auditor) (mark : ℕ) → mark ≢ epoch_in latest → HasMark hash all auditor mark → HasMark hash (with_latest all mine) auditor mark
  still hash auditor mark apart has =
      let other : has.place ≢ length all - 1 = λ here.
      let same : has.mine ≡ latest = same_Some has.mine latest (sym has.there ∙ ap (slice_get all) here ∙ again-all.there) in
      apart (sym has.epoch ∙ sym has.has.epoch ∙ ap epoch_in same) in
      record {
        head = has.head;
        cosigned = has.cosigned;
        place = has.place;
        mine = has.mine;
        there = get-set_other all (length all - 1) has.place mine other ∙ has.there;
        has = has.has;
        epoch = has.epoch;
      }

  pub unmarked-right : (hash : List ℕ → List ℕ) (auditors : List Auditor) (marks : List ℕ) → AreMarks hash auditors all marks
      → AreMarks hash auditors (dropped ++ with_latest stored mine) (map (unmarked (epoch_in latest)) marks)
  unmarked-right hash auditors marks are = record {
    size = length-map marks (unmarked (epoch_in latest)) ∙ are.size;
    each = λ i auditor mark at_a at_m above.
        let was = was_at (epoch_in latest) marks i mark at_m in
        let is = unmarked-is (epoch_in latest) was.0 mark was.2 above in
        subst (λ (l : List StoredEntry). HasMark hash l auditor mark) latest-all
        (still hash auditor mark (λ same. is.1 (is.0 ∙ same))
        (subst (λ (m : ℕ). HasMark hash all auditor m) is.0 (are.each i auditor was.0 at_a was.1 (omega (arith, is.0)))));
  }

pub again : AgainLaw
again hash auditors dropped stored marks latest mine is signed =
    let within = slice_get_within stored (length stored - 1) latest signed.there in
    let size = length-set stored (length stored - 1) mine in
    record {
      some = omega arith;
      chain = subst (λ (l : List StoredEntry). IsChain hash l) (latest-all dropped stored latest mine signed)
          (again-chain (dropped ++ stored) latest mine (again-all dropped stored latest mine signed) hash is.chain);
      marked = unmarked-right dropped stored latest mine signed hash auditors marks is.marked;
    }

-- one mark more is set to 0 if it is at the epoch
pub unmark-more : (f : ℕ → ℕ) (now old : List ℕ) (n v d : ℕ) → n < length now → length now ≡ length old → drop n now ≡ drop n old → take n now ≡ map f (take n old)
    → v ≡ f (get_or now n d)
    → (length (set now n v) ≡ length old) × (drop (n + 1) (set now n v) ≡ drop (n + 1) old) × (take (n + 1) (set now n v) ≡ map f (take (n + 1) old))
unmark-more f now old n v d less size rest done is =
    let next : n + 1 ≡ suc n = omega arith in
    let here : n ≡ n + 0 = omega arith in
    let at : (l : List ℕ) → get_or l n d ≡ get_or (drop n l) 0 d = λ l. ap (λ (k : ℕ). get_or l k d) here ∙ sym (get_or-drop n l 0 d) in
    let same : get_or now n d ≡ get_or old n d = at now ∙ ap (λ (l : List ℕ). get_or l 0 d) rest ∙ sym (at old) in (
      length-set now n v ∙ size,
      drop-set-lt (n + 1) now n v (omega arith) ∙ sym (drop-drop 1 n now) ∙ ap (drop 1) rest ∙ drop-drop 1 n old,
      ap (λ (k : ℕ). take k (set now n v)) next ∙ fill-more f now old n v d less (omega (arith, size)) (is ∙ ap f same) done
          ∙ ap (λ (k : ℕ). map f (take k old)) (sym next),
    )
