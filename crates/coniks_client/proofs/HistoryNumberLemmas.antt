-- Steps with the numbers that their epochs have show what they showed.
use Rattle.std.proofs.Common.{◌≡◌, ◌≢◌, ℕ, zero, suc, ◌+◌, ◌<◌, ◌≤◌, List, [], ◌∷◌, length, Option, Some, None, refl, sym, ap, subst, ◌∙◌, ⊎_elim, arith}
use Rattle.std.specs.List.{slice_get}
use Rattle.std.specs.Option.{option_map}
use Rattle.std.proofs.lemmas.Bool.{cases_lt}
use Rattle.std.proofs.lemmas.Option.{same_Some}
use Rattle.coniks_client.specs.declared.changes.Change.{Change}
use Rattle.coniks_client.specs.declared.stored.StoredEntry.{StoredEntry}
use Rattle.coniks_client.specs.declared.watching.Watch.{Watch}
use Rattle.coniks_client.specs.HistoryChecking.{AreShown, IsWritten}
use Rattle.coniks_client.specs.HistoryMarking.{AreNumberedTo, AreReported, IsNumbered, IsReported, numbered}
use Rattle.coniks_client.specs.HistorySteps.{EpochProof}
use Rattle.coniks_client.specs.declared.histories.shown.ShownStep.{ShownStep}

module _ (watch : Option Watch) (name : List ℕ) (stored : List StoredEntry) where
  -- none so far
  pub numbered-none : (old : List ShownStep) → AreNumberedTo watch name stored old old 0
  numbered-none old = record { done = λ k less. absurd (omega arith); left = λ k le. refl }

  -- one more
  pub numbered-more : (old now new : List ShownStep) (n : ℕ) (one done : ShownStep) → slice_get now n ≡ Some one → done ≡ numbered watch name stored one
      → IsWritten now new n done → AreNumberedTo watch name stored old now n → AreNumberedTo watch name stored old new (n + 1)
  numbered-more old now new n one done at is written before = record {
    done = λ k less. ⊎_elim
        (λ (below : k < n). let apart : k ≢ n = omega arith in written.others k apart ∙ before.done k below)
        (λ (le : n ≤ k).
        let here : k ≡ n = omega arith in
        let was : slice_get old n ≡ Some one = sym (before.left n (omega arith)) ∙ at in
        ap (slice_get new) here ∙ written.here ∙ ap (λ (o : ShownStep). Some o) is
        ∙ sym (ap (option_map (numbered watch name stored)) (ap (slice_get old) here ∙ was)))
        (cases_lt k n);
    left = λ k le. let apart : k ≢ n = omega arith in written.others k apart ∙ before.left k (omega arith);
  }

  module _ (old new : List ShownStep) (n : ℕ) (are : AreNumberedTo watch name stored old new n) where
    -- the step at a place
    at_new : (k : ℕ) (one : ShownStep) → k < n → slice_get old k ≡ Some one → slice_get new k ≡ Some (numbered watch name stored one)
    at_new k one below at = are.done k below ∙ ap (option_map (numbered watch name stored)) at

    was : (before : Option ShownStep) (one : ShownStep) → option_map (numbered watch name stored) before ≡ Some one
        → (x : ShownStep) × (before ≡ Some x) × (numbered watch name stored x ≡ one)
    was None one is = absurd (cc)
    was (Some x) one is = (x, refl, same_Some (numbered watch name stored x) one is)

    pub are-numbered : (k : ℕ) (one : ShownStep) → k < n → slice_get new k ≡ Some one → IsNumbered watch name stored one
    are-numbered k one below at =
        let x = was (slice_get old k) one (sym (are.done k below) ∙ at) in
        subst (λ (o : ShownStep). IsNumbered watch name stored o) x.2 (record { shows = refl; seen = refl })

    pub shown-numbered : (hash : List ℕ → List ℕ) (index : List ℕ) (then : List StoredEntry) (requested : List ℕ) (steps : List EpochProof) → length steps ≤ n
        → AreShown hash index then requested steps old → AreShown hash index then requested steps new
    shown-numbered hash index then requested [] few shown = tt
    shown-numbered hash index then requested (step ∷ earlier) few shown = (
      numbered watch name stored shown.0,
      at_new (length earlier) shown.0 (omega arith) shown.1,
      shown.2,
      shown-numbered hash index then requested earlier (omega arith) shown.3,
    )

    pub reported-numbered : (by : Option Watch) (requested : List ℕ) (first : List StoredEntry) (changes : List Change) (m : ℕ) (last : List StoredEntry) (marked : List Change) → m ≤ n
        → AreReported by requested old first changes m last marked → AreReported by requested new first changes m last marked
    reported-numbered by requested first changes zero last marked few reported = reported
    reported-numbered by requested first changes (suc m) last marked few reported =
        let is : IsReported by requested reported.2 reported.0 reported.1 last marked = reported.5 in (
          reported.0,
          reported.1,
          numbered watch name stored reported.2,
          reported-numbered by requested first changes m reported.0 reported.1 (omega arith) reported.3,
          at_new m reported.2 (omega arith) reported.4,
          record { mine = is.mine; there = is.there; number = is.number; changes_are = is.changes_are },
        )
