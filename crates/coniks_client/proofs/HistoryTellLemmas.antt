-- What is stored when the epochs of a history's steps are marked.
use Rattle.std.proofs.Common.{◌≡◌, ℕ, zero, suc, ◌<◌, ◌≤◌, List, ◌∷◌, [], length, Option, Some, None, IfSome, refl, sym, ap, subst, ◌∙◌, ⊎_elim, arith, take}
use Rattle.std.specs.List.{slice_get}
use Rattle.std.proofs.lemmas.Bool.{cases_lt}
use Rattle.std.proofs.lemmas.List.{length-take-le}
use Rattle.std.proofs.lemmas.Option.{same_Some, slice_get_within}
use Rattle.coniks_client.specs.Changes.{wanted}
use Rattle.coniks_chain.specs.declared.entry.Entry.{Entry}
use Rattle.coniks_client.specs.StoredEntry.{IsChain, entry_in, epoch_in}
use Rattle.coniks_client.specs.Owner.{IsShown, IsWatched, Scheme}
use Rattle.coniks_client.specs.Steps.{given_number}
use Rattle.coniks_client.specs.declared.changes.Change.{Change}
use Rattle.coniks_client.specs.declared.stored.StoredEntry.{StoredEntry}
use Rattle.coniks_client.specs.declared.watching.Watch.{Watch}
use Rattle.coniks_client.proofs.SiblingLemmas.{get-take}
use Rattle.coniks_client.proofs.StepLemmas.{marks-chain, was_at}
use Rattle.coniks_client.proofs.WatchLemmas.{any-watched}
use Rattle.coniks_client.specs.HistoryChecking.{AreShown, Passes, answer_in}
use Rattle.coniks_client.specs.HistoryMarking.{AreReported, HavePlaces}
use Rattle.coniks_client.specs.HistorySteps.{EpochProof, proof_of}
use Rattle.coniks_client.specs.declared.histories.shown.ShownStep.{ShownStep}

-- what is informed of the first n steps, as a list of their own, is informed of all
pub reported-first : (watch : Option Watch) (name : List ℕ) (shown : List ShownStep) (stored : List StoredEntry) (changes : List Change) (n m : ℕ) (new : List StoredEntry) (marked : List Change)
    → m ≤ n → AreReported watch name (take n shown) stored changes m new marked → AreReported watch name shown stored changes m new marked
reported-first watch name shown stored changes n zero new marked few reported = reported
reported-first watch name shown stored changes n (suc m) new marked few reported = (
  reported.0,
  reported.1,
  reported.2,
  reported-first watch name shown stored changes n m reported.0 reported.1 (omega arith) reported.3,
  sym (get-take n shown m (omega arith)) ∙ reported.4,
  reported.5,
)

-- the first n steps, as a list of their own
module _ (shown part : List ShownStep) (n : ℕ) (is : part ≡ take n shown) (few : n ≤ length shown) where
  size : length part ≡ n
  size = ap length is ∙ length-take-le n shown few

  pub places-first : (stored : List StoredEntry) → ((k : ℕ) (one : ShownStep) → k < n → slice_get shown k ≡ Some one → one.place < length stored)
      → HavePlaces part (length part) stored
  places-first stored have k one less at =
      let many : length part ≡ n = size in
      let below : k < n = omega arith in
      have k one below (sym (get-take n shown k below) ∙ ap (λ xs. slice_get xs k) (sym is) ∙ at)

  pub reported-part : (watch : Option Watch) (name : List ℕ) (stored : List StoredEntry) (changes : List Change) (new : List StoredEntry) (marked : List Change)
      → AreReported watch name part stored changes (length part) new marked → AreReported watch name shown stored changes n new marked
  reported-part watch name stored changes new marked reported =
      let counted = subst (λ (m : ℕ). AreReported watch name part stored changes m new marked) size reported in
      reported-first watch name shown stored changes n n new marked (omega arith)
      (subst (λ (xs : List ShownStep). AreReported watch name xs stored changes n new marked) is counted)

-- what is in the place of a step is what it showed
pub shown-passes : (hash : List ℕ → List ℕ) (index : List ℕ) (stored : List StoredEntry) (name : List ℕ) (steps : List EpochProof) (shown : List ShownStep)
    → AreShown hash index stored name steps shown → (k : ℕ) (one : ShownStep) → k < length steps → slice_get shown k ≡ Some one
    → (step : EpochProof) × Passes hash index stored name step one.place (answer_in one)
shown-passes hash index stored name [] shown are k one less at = absurd (omega arith)
shown-passes hash index stored name (step ∷ earlier) shown are k one less at = ⊎_elim
    (λ (below : k < length earlier). shown-passes hash index stored name earlier shown are.3 k one below at)
    (λ (le : length earlier ≤ k).
    let here : k ≡ length earlier = omega arith in
    let same : are.0 ≡ one = same_Some are.0 one (sym are.1 ∙ ap (slice_get shown) (sym here) ∙ at) in
    (step, subst (λ (o : ShownStep). Passes hash index stored name step o.place (answer_in o)) same are.2))
    (cases_lt k (length earlier))

-- so it has a place among the stored epochs
pub shown-within : (hash : List ℕ → List ℕ) (index : List ℕ) (stored : List StoredEntry) (name : List ℕ) (steps : List EpochProof) (shown : List ShownStep)
    → AreShown hash index stored name steps shown → (k : ℕ) (one : ShownStep) → k < length steps → slice_get shown k ≡ Some one → one.place < length stored
shown-within hash index stored name steps shown are k one less at =
    let passes = shown-passes hash index stored name steps shown are k one less at in
    slice_get_within stored one.place passes.1.mine passes.1.there

-- and its answer was shown under the stored entry
pub shown-shown : (hash : List ℕ → List ℕ) (scheme : Scheme) (index : List ℕ) (stored : List StoredEntry) (name vrf : List ℕ) (steps : List EpochProof) (shown : List ShownStep)
    → Some index ≡ scheme name vrf → AreShown hash index stored name steps shown → (k : ℕ) (one : ShownStep) (mine : StoredEntry) → k < length steps
    → slice_get shown k ≡ Some one → slice_get stored one.place ≡ Some mine → IsShown hash scheme (entry_in mine) name (answer_in one)
shown-shown hash scheme index stored name vrf steps shown indexed are k one mine less at there =
    let passes = shown-passes hash index stored name steps shown are k one less at in
    let same : passes.1.mine ≡ mine = same_Some passes.1.mine mine (sym passes.1.there ∙ there) in
    let by_step : IsShown hash scheme (entry_in passes.1.mine) name (answer_in one) = record {
      vrf = vrf;
      index = index;
      proof = proof_of passes.0;
      indexed = sym indexed;
      accepted = passes.1.accepted;
    } in
    subst (λ (x : StoredEntry). IsShown hash scheme (entry_in x) name (answer_in one)) same by_step

-- each stored entry is the one that was there
abbrev pub SameEntries : List StoredEntry → List StoredEntry → Type 0
SameEntries old new = (k : ℕ) (x : StoredEntry) → slice_get new k ≡ Some x → (y : StoredEntry) × (slice_get old k ≡ Some y) × (entry_in y ≡ entry_in x)

module _ (watch : Option Watch) (name : List ℕ) (shown : List ShownStep) (old : List StoredEntry) (changes : List Change) where
  pub reported-same : (n : ℕ) (new : List StoredEntry) (marked : List Change) → AreReported watch name shown old changes n new marked → SameEntries old new
  reported-same zero new marked reported = λ k x there. (x, sym (ap (λ (l : List StoredEntry). slice_get l k) reported.0) ∙ there, refl)
  reported-same (suc n) new marked reported = λ k x there.
      let is = reported.5 in
      let y = was_at reported.0 new reported.2.place is.mine is.there (given_number watch reported.1 name (epoch_in is.mine) (answer_in reported.2)) is.number k x there in
      let z = reported-same n reported.0 reported.1 reported.3 k y.0 y.1 in
      (z.0, z.1, z.2 ∙ y.2)

  pub reported-chain : (hash : List ℕ → List ℕ) (n : ℕ) (new : List StoredEntry) (marked : List Change) → AreReported watch name shown old changes n new marked → IsChain hash old → IsChain hash new
  reported-chain hash zero new marked reported chain = subst (IsChain hash) (sym reported.0) chain
  reported-chain hash (suc n) new marked reported chain =
      let is = reported.5 in
      marks-chain reported.0 new reported.2.place is.mine is.there hash (given_number watch reported.1 name (epoch_in is.mine) (answer_in reported.2)) is.number
      (reported-chain hash n reported.0 reported.1 reported.3 chain)

  joined : (w : Option Watch) (A B C : Watch → Type 0) → IfSome w (λ x. A x → B x) → IfSome w (λ x. B x → C x) → IfSome w (λ x. A x → C x)
  joined None A B C one two = tt
  joined (Some x) A B C one two = λ a. two (one a)

  same : (w : Option Watch) (hash : List ℕ → List ℕ) (scheme : Scheme) (new : List StoredEntry) (marked : List Change) → new ≡ old → marked ≡ changes
      → IfSome w (λ x. IsWatched hash scheme x.name.now (wanted x.key.now) changes old → IsWatched hash scheme x.name.now (wanted x.key.now) marked new)
  same None hash scheme new marked stored_same changes_same = tt
  same (Some x) hash scheme new marked stored_same changes_same = λ watched.
      subst (λ (l : List StoredEntry). IsWatched hash scheme x.name.now (wanted x.key.now) marked l) (sym stored_same)
      (subst (λ (l : List Change). IsWatched hash scheme x.name.now (wanted x.key.now) l old) (sym changes_same) watched)

  pub reported-watched : (hash : List ℕ → List ℕ) (scheme : Scheme) (n : ℕ) (new : List StoredEntry) (marked : List Change) → AreReported watch name shown old changes n new marked
      → ((k : ℕ) (one : ShownStep) (mine : StoredEntry) → k < n → slice_get shown k ≡ Some one → slice_get old one.place ≡ Some mine
      → IsShown hash scheme (entry_in mine) name (answer_in one))
      → IfSome watch (λ x. IsWatched hash scheme x.name.now (wanted x.key.now) changes old → IsWatched hash scheme x.name.now (wanted x.key.now) marked new)
  reported-watched hash scheme zero new marked reported are = same watch hash scheme new marked reported.0 reported.1
  reported-watched hash scheme (suc n) new marked reported are =
      let is = reported.5 in
      let one = reported.2 in
      let before = reported-watched hash scheme n reported.0 reported.1 reported.3 (λ k o m less at there. are k o m (omega arith) at there) in
      let y = reported-same n reported.0 reported.1 reported.3 one.place is.mine is.there in
      let was = subst (λ (e : Entry). IsShown hash scheme e name (answer_in one)) y.2 (are n one y.0 (omega arith) reported.4 y.1) in
      let step = any-watched hash scheme reported.0 new one.place is.mine is.there watch reported.1 (answer_in one) name
      (given_number watch reported.1 name (epoch_in is.mine) (answer_in one)) marked is.number refl is.changes_are was in
      joined watch (λ x. IsWatched hash scheme x.name.now (wanted x.key.now) changes old) (λ x. IsWatched hash scheme x.name.now (wanted x.key.now) reported.1 reported.0)
      (λ x. IsWatched hash scheme x.name.now (wanted x.key.now) marked new) before step
