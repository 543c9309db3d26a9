-- The change that goes on in the next chain.
use Rattle.std.proofs.Common.{◌≡◌, ℕ, zero, suc, length, map, ◌+◌, ◌-◌, ◌<◌, ◌≤◌, ◌&&◌, ◌||◌, List, [], ◌∷◌, Bool, true, false, if◌then◌else◌, nat_lt, Option, Some, None, refl, sym, ap, subst, ◌∙◌, ⊎_elim, arith}
use Rattle.std.specs.Prelude.{IfSome}
use Rattle.std.specs.List.{slice_get}
use Rattle.std.proofs.lemmas.Bool.{cases_lt, lt-ltb, le-ltb}
use Rattle.std.proofs.lemmas.Option.{same_Some}
use Rattle.coniks_client.specs.Changes.{begun, expected, is_accepted, may_show, same_key, wanted}
use Rattle.coniks_client.specs.Owner.{IsSame}
use Rattle.coniks_client.specs.declared.changes.Change.{Change}
use Rattle.coniks_client.specs.declared.stored.StoredEntry.{StoredEntry}
use Rattle.coniks_quorum.specs.Auditors.{Auditor}
use Rattle.coniks_quorum.specs.Successions.{NextClientLaw, NextWatchLaw, changes_of, latest_number, moved, open_at}
use Rattle.coniks_quorum.proofs.ListLemmas.{only_one}

-- the next change has not begun
pub not-begun : (changes : List Change) (epoch : ℕ) (next : Change) → slice_get changes (begun changes epoch) ≡ Some next → epoch < next.first_new
not-begun [] epoch next at = absurd (cc)
not-begun (c ∷ changes) epoch next at = ⊎_elim
    (λ (less : epoch < c.first_new).
    let here : slice_get (c ∷ changes) 0 ≡ Some next = subst (λ (b : Bool). slice_get (c ∷ changes) (if b then 0 else suc (begun changes epoch)) ≡ Some next) (lt-ltb epoch c.first_new less) at in
    subst (λ (x : Change). epoch < x.first_new) (same_Some c next here) less)
    (λ (le : c.first_new ≤ epoch).
    let there : slice_get (c ∷ changes) (suc (begun changes epoch)) ≡ Some next = subst (λ (b : Bool). slice_get (c ∷ changes) (if b then 0 else suc (begun changes epoch)) ≡ Some next) (le-ltb epoch c.first_new le) at in
    not-begun changes epoch next there)
    (cases_lt epoch c.first_new)

pub next-open : (changes : List Change) (epoch count : ℕ) (next : Option Change) → count ≡ begun changes epoch → next ≡ slice_get changes count
    → IfSome next (λ change. epoch < change.first_new)
next-open changes epoch count None is at = tt
next-open changes epoch count (Some change) is at = not-begun changes epoch change (sym (at ∙ ap (slice_get changes) is))

-- it begins after the first epoch that counts
begins-later : (last first : ℕ) (change : Change) → last < change.first_new → first < latest_number → first < (moved last first change).first_new
begins-later last first change later early = omega arith

module _ (key : Option (List ℕ)) (last first : ℕ) where
  expects-of : (b : Bool) (change : Change) → last < change.first_new → first < latest_number
      → expected key (changes_of (if b then Some (moved last first change) else None)) first ≡ key
  expects-of true change later early =
      let after = begins-later last first change later early in
      ap (λ (b : Bool). if b then key else wanted change.key.now) (lt-ltb first (moved last first change).first_new after)
  expects-of false change later early = refl

  pub expects : (next : Option Change) → IfSome next (λ change. last < change.first_new) → first < latest_number → expected key (changes_of (open_at last first next)) first ≡ key
  expects None later early = refl
  expects (Some change) later early = expects-of (nat_lt change.last_old last) change later early

  or-none : (b : Bool) → b ≡ (b || false)
  or-none true = refl
  or-none false = refl

  accepts-of : (b : Bool) (change : Change) (answer : Option (List ℕ)) → nat_lt change.last_old last ≡ b → last < change.first_new → 0 < first → first < latest_number
      → is_accepted key (changes_of (if b then Some (moved last first change) else None)) first answer ≡ may_show key (Some change) last answer
  accepts-of true change answer is later some early =
      let new = moved last first change in
      let after = begins-later last first change later early in
      let before : first - 1 < first = omega arith in
      ap (λ (b : Bool). may_show (if b then key else wanted change.key.now) (slice_get (new ∷ []) (if b then 0 else 1)) first answer) (lt-ltb first new.first_new after)
      ∙ ap (λ (b : Bool). same_key answer key || (b && same_key answer (wanted change.key.now))) (lt-ltb (first - 1) first before ∙ sym is)
  accepts-of false change answer is later some early =
      or-none (same_key answer key)
      ∙ ap (λ (b : Bool). same_key answer key || (b && same_key answer (wanted change.key.now))) (sym is)

  pub accepts : (next : Option Change) (answer : Option (List ℕ)) → IfSome next (λ change. last < change.first_new) → 0 < first → first < latest_number
      → is_accepted key (changes_of (open_at last first next)) first answer ≡ may_show key next last answer
  accepts None answer later some early = refl
  accepts (Some change) answer later some early = accepts-of (nat_lt change.last_old last) change answer refl later some early

-- so it is for the values of a call
module _ (key : Option (List ℕ)) (changes : List Change) (last first count : ℕ) (next : Option Change) (now : Option (List ℕ)) (new : Option Change)
    (is : count ≡ begun changes last) (at : next ≡ slice_get changes count) (is_key : now ≡ expected key changes last) (is_new : new ≡ open_at last first next) where
  pub expects-at : first < latest_number → expected now (changes_of new) first ≡ expected key changes last
  expects-at early = ap (λ (o : Option Change). expected now (changes_of o) first) is_new ∙ expects now last first next (next-open changes last count next is at) early ∙ is_key

  pub accepts-at : (answer : Option (List ℕ)) → 0 < first → first < latest_number → is_accepted now (changes_of new) first answer ≡ is_accepted key changes last answer
  accepts-at answer some early = ap (λ (o : Option Change). is_accepted now (changes_of o) first answer) is_new
      ∙ accepts now last first next answer (next-open changes last count next is at) some early
      ∙ ap (λ (k : Option (List ℕ)). may_show k next last answer) is_key
      ∙ ap (λ (o : Option Change). may_show (expected key changes last) o last answer) (at ∙ ap (slice_get changes) is)

-- the next client: its one epoch has not been seen, and its marks are 0
unseen : (mine : StoredEntry) → ¬ IsSame mine.seen → (k : ℕ) (x : StoredEntry) → slice_get (mine ∷ []) k ≡ Some x → ¬ IsSame x.seen
unseen mine not k x at = subst (λ (y : StoredEntry). ¬ IsSame y.seen) (only_one mine x k at) not

abbrev zeros : List Auditor → List ℕ
zeros auditors = map (λ auditor. 0) auditors

zero-mark : (auditors : List Auditor) (i m : ℕ) → slice_get (zeros auditors) i ≡ Some m → m ≡ 0
zero-mark [] i m at = absurd (cc)
zero-mark (a ∷ auditors) zero m at = sym (same_Some 0 m at)
zero-mark (a ∷ auditors) (suc i) m at = zero-mark auditors i m at

zero-size : (auditors : List Auditor) → length (zeros auditors) ≡ length auditors
zero-size [] = refl
zero-size (a ∷ auditors) = ap (λ (n : ℕ). suc n) (zero-size auditors)

pub next-client : NextClientLaw
next-client hash auditors mine = record {
  some = omega arith;
  chain = λ k before x at_b at_x. absurd (cc);
  marked = record { size = zero-size auditors; each = λ i auditor mark at at_m above. let none = zero-mark auditors i mark at_m in absurd (omega arith) };
}

pub next-watched : NextWatchLaw
next-watched hash scheme name key changes mine order not = record {
  order = order;
  decided = λ k x at same. absurd (unseen mine not k x at same);
  backed = λ k x at same. absurd (unseen mine not k x at same);
}
