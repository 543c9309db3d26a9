-- What stays of a verified epoch.
use Rattle.std.proofs.Common.{true, subst, ◌&&◌, ◌||◌, nat_lt, Some, None, ◌≡◌, ℕ, suc, length, Bool, if◌then◌else◌, inr, ⊎_elim, ◌<◌, ◌≤◌, List, [], ◌∷◌, Option, refl, sym, ap, ◌∙◌, arith}
use Rattle.std.proofs.lemmas.Bool.{cases_lt, le-ltb, lt-ltb}
use Rattle.std.specs.List.{slice_get}
use Rattle.coniks_client.proofs.HonestLemmas.{same-self}
use Rattle.coniks_client.specs.Changes.{AreInOrder, IsDecided, Keeps, begun, expected, is_accepted, marked, may_show, same_key, wanted, with_change}
use Rattle.coniks_client.specs.Reported.{AgainLaw, Event, IsStoredBy, IsStoredThrough, TimelineLaw, ReportedLaw, WindowLaw, changes_by, expected_after, key_by}
use Rattle.coniks_client.specs.Reported.Event.{Marks, Expects, Settles}
use Rattle.coniks_client.specs.declared.changes.Change.{Change}
use Rattle.coniks_client.proofs.ChangeLemmas.{begun-first, key-expected, marked-decides, marked-keeps, marked-order, more-keeps, more-new, more-order, settled-keeps, settled-order}

one-order : (key : Option (List ℕ)) (changes : List Change) (epoch : ℕ) (event : Event) → IsStoredBy key changes epoch event → AreInOrder 0 changes
    → AreInOrder 0 (changes_by key changes event)
one-order key changes epoch (Marks other answer) stored order = marked-order 0 key changes other answer order
one-order key changes epoch (Expects change) stored order = more-order 0 changes change (omega arith) stored.1.begun stored.1.later order
one-order key changes epoch (Settles oldest) stored order = settled-order 0 changes oldest order

one-keeps : (key : Option (List ℕ)) (changes : List Change) (epoch : ℕ) (event : Event) → IsStoredBy key changes epoch event → AreInOrder 0 changes
    → Keeps key changes (key_by key changes event) (changes_by key changes event) epoch
one-keeps key changes epoch (Marks other answer) stored order = marked-keeps 0 key changes other answer epoch order
one-keeps key changes epoch (Expects change) stored order = more-keeps key changes change epoch stored.1.later stored.0
one-keeps key changes epoch (Settles oldest) stored order = settled-keeps 0 key changes oldest epoch stored order

stays : (key : Option (List ℕ)) (changes : List Change) (epoch : ℕ) (later : List Event) → AreInOrder 0 changes → IsDecided changes epoch
    → IsStoredThrough key changes epoch later → expected_after key changes epoch later ≡ expected key changes epoch
stays key changes epoch [] order decided stored = refl
stays key changes epoch (event ∷ later) order decided stored =
    let keeps = one-keeps key changes epoch event stored.0 order decided in
    stays (key_by key changes event) (changes_by key changes event) epoch later (one-order key changes epoch event stored.0 order) keeps.0 stored.1 ∙ keeps.1

pub reported : ReportedLaw
reported key changes epoch answer later order accepted stored =
    let now = marked-decides 0 key changes epoch answer order accepted in
    stays key (marked key changes epoch answer) epoch later (marked-order 0 key changes epoch answer order) now.0 stored.1 ∙ now.1

decided-new : (changes : List Change) (new : Change) (epoch : ℕ) → begun changes new.last_old ≡ length changes → new.last_old < new.first_new → new.first_new ≤ epoch
    → IsDecided (with_change changes new) epoch
decided-new [] new epoch all apart le = inr (le, tt)
decided-new (c ∷ changes) new epoch all apart le =
    let first = begun-first c changes new.last_old all in
    let began = first.0 in
    inr (omega arith, decided-new changes new epoch first.1 apart le)

pub windows : WindowLaw
windows key changes change epoch later order may le stored =
    stays key (with_change changes change) epoch later (more-order 0 changes change (omega arith) may.begun may.later order) (decided-new changes change epoch may.begun may.later le) stored
    ∙ more-new key changes change epoch may.begun may.later le

begun-rises : (changes : List Change) (epoch later : ℕ) → epoch ≤ later → begun changes epoch ≤ begun changes later
begun-rises [] epoch later le = omega arith
begun-rises (c ∷ changes) epoch later le =
    let rest = begun-rises changes epoch later le in
    ⊎_elim
    (λ (less : epoch < c.first_new). let none : begun (c ∷ changes) epoch ≡ 0 = ap (λ (b : Bool). if b then 0 else suc (begun changes epoch)) (lt-ltb epoch c.first_new less) in omega arith)
    (λ (past : c.first_new ≤ epoch).
    let one : begun (c ∷ changes) epoch ≡ suc (begun changes epoch) = ap (λ (b : Bool). if b then 0 else suc (begun changes epoch)) (le-ltb epoch c.first_new past) in
    let two : begun (c ∷ changes) later ≡ suc (begun changes later) = ap (λ (b : Bool). if b then 0 else suc (begun changes later)) (le-ltb later c.first_new (omega arith)) in
    omega arith)
    (cases_lt epoch c.first_new)

pub timeline : TimelineLaw
timeline key changes epoch later order le = (sym (key-expected key changes epoch), begun-rises changes epoch later le)

shows-expected : (key : Option (List ℕ)) (next : Option Change) (epoch : ℕ) → may_show key next epoch key ≡ true
shows-expected key None epoch = same-self key
shows-expected key (Some next) epoch = ap (λ (b : Bool). b || (nat_lt next.last_old epoch && same_key key (wanted next.key.now))) (same-self key)

pub again : AgainLaw
again key changes epoch answer order decided = (
  λ accepted.
      let now = marked-decides 0 key changes epoch answer order accepted in
      let before = marked-keeps 0 key changes epoch answer epoch order decided in
      sym now.1 ∙ before.1,
  λ is. subst (λ (a : Option (List ℕ)). is_accepted key changes epoch a ≡ true) (sym is)
      (shows-expected (expected key changes epoch) (slice_get changes (begun changes epoch)) epoch),
)
