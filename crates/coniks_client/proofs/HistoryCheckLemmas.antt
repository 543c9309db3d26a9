-- What steps that pass showed.
use Rattle.std.proofs.Common.{◌≡◌, ℕ, ◌+◌, ◌≤◌, List, [], ◌∷◌, length, Option, Some, refl, sym, ap, subst, ◌∙◌, arith}
use Rattle.std.specs.List.{slice_get}
use Rattle.coniks_proof.specs.Proofs.{EndFits, answer_of}
use Rattle.coniks_proof.specs.declared.paths.End.{End}
use Rattle.coniks_proof.specs.declared.paths.End.TheVariants.{Empty, Other, Here}
use Rattle.coniks_chain.specs.declared.entry.Entry.{Entry}
use Rattle.coniks_client.specs.StoredEntry.{entry_in}
use Rattle.coniks_client.specs.declared.stored.StoredEntry.{StoredEntry}
use Rattle.coniks_client.specs.HistoryChecking.{AreCheckedTo, AreShown, IsAcceptedUnder, IsWritten, Passes, answer_by, answer_in, key_of}
use Rattle.coniks_client.specs.HistorySteps.{EpochProof, IsStep, Past, after, proof_of}
use Rattle.coniks_client.specs.declared.histories.shown.ShownStep.{ShownStep}

-- the key of an accepted end says its answer
pub key-answer : (index name : List ℕ) (level : ℕ) (end : End) → EndFits index name level end → answer_by (key_of end) ≡ answer_of end
key-answer index name level Empty fits = refl
key-answer index name level (Other other commitment) fits = refl
key-answer index name level (Here here [] opening) fits = absurd (omega (arith, fits.1))
key-answer index name level (Here here (byte ∷ key) opening) fits = refl

-- a step that is accepted under a stored epoch passes with the key of its end
pub passes-by : (hash : List ℕ → List ℕ) (index : List ℕ) (stored : List StoredEntry) (name : List ℕ) (step : EpochProof) (place : ℕ) (mine : StoredEntry) (entry : Entry) (key : List ℕ)
    → slice_get stored place ≡ Some mine → (entry_in mine).body.t ≡ step.epoch → entry ≡ entry_in mine → key ≡ key_of step.end
    → IsAcceptedUnder hash index entry name step (answer_of step.end) → Passes hash index stored name step place (answer_by key)
passes-by hash index stored name step place mine entry key there epoch is key_is accepted =
    let answer_is : answer_of step.end ≡ answer_by key =
    sym (ap answer_by key_is ∙ key-answer index name (length (proof_of step).siblings) step.end accepted.well_formed.end_fits) in
    record {
      mine = mine;
      there = there;
      epoch = epoch;
      accepted = subst (λ (e : Entry). IsAcceptedUnder hash index e name step (answer_by key)) is
          (subst (λ (a : Option (List ℕ)). IsAcceptedUnder hash index entry name step a) answer_is accepted);
    }

-- a place after those of the steps changes nothing that they showed
shown-others : (hash : List ℕ → List ℕ) (index : List ℕ) (stored : List StoredEntry) (name : List ℕ) (steps : List EpochProof) (old new : List ShownStep) (place : ℕ) (one : ShownStep)
    → IsWritten old new place one → length steps ≤ place → AreShown hash index stored name steps old → AreShown hash index stored name steps new
shown-others hash index stored name [] old new place one written below shown = tt
shown-others hash index stored name (step ∷ earlier) old new place one written below shown = (
  shown.0,
  written.others (length earlier) (λ (e : length earlier ≡ place). omega arith) ∙ shown.1,
  shown.2,
  shown-others hash index stored name earlier old new place one written (omega arith) shown.3,
)

-- one step more
pub checked-more : (hash : List ℕ → List ℕ) (index : List ℕ) (stored : List StoredEntry) (name bytes : List ℕ) (old new : List ShownStep) (past : Past) (rest next : List ℕ) (count : ℕ)
    (step : EpochProof) (one : ShownStep) → AreCheckedTo hash index stored name bytes old past rest count → IsStep past rest step next
    → Passes hash index stored name step one.place (answer_in one) → IsWritten old new count one
    → AreCheckedTo hash index stored name bytes new (after step) next (count + 1)
checked-more hash index stored name bytes old new past rest next count step one checked is passes written =
    let size : length checked.0 ≡ count = checked.3 in (
      step ∷ checked.0,
      (rest, checked.1, subst (λ (p : Past). IsStep p rest step next) (sym checked.2) is),
      refl,
      omega (arith, size),
      (one, ap (slice_get new) size ∙ written.here, passes, shown-others hash index stored name checked.0 old new count one written (omega (arith, size)) checked.4),
    )
