-- A history that is accepted or refused depends on an index scheme only where the caller passed its result.
use Rattle.std.proofs.Common.{◌≡◌, ◌<◌, ◌∙◌, ℕ, List, Option, Some, IfSome, drop, sym, arith}
use Rattle.std.specs.List.{slice_get}
use Rattle.std.proofs.lemmas.List.{drop-drop}
use Rattle.coniks_proof.specs.Sha256.{sha256}
use Rattle.coniks_client.specs.Changes.{wanted}
use Rattle.coniks_client.specs.StoredEntry.{entry_in}
use Rattle.coniks_client.specs.Owner.{IsShown, IsWatched, Scheme}
use Rattle.coniks_client.specs.declared.changes.Change.{Change}
use Rattle.coniks_client.specs.declared.stored.StoredEntry.{StoredEntry}
use Rattle.coniks_client.specs.declared.watching.Watch.{Watch}
use Rattle.coniks_client.proofs.Lemmas.{shown-shown, reported-watched}
use Rattle.coniks_client.specs.HistoryAccepting.{IsAccepted, IsNotAccepted}
use Rattle.coniks_client.specs.HistoryChecking.{answer_in}
use Rattle.coniks_client.specs.Histories.{vrf_part}
use Rattle.coniks_client.specs.HistoryMarking.{AreReported}
use Rattle.coniks_client.specs.declared.histories.faults.AcceptFault.{AcceptFault}
use Rattle.coniks_client.specs.declared.histories.faults.AcceptFault.TheVariants.{NoHistory, VrfProof, NoRoom, UnknownEpoch, Check}
use Rattle.coniks_client.specs.declared.histories.shown.ShownStep.{ShownStep}
use Rattle.coniks_c.proofs.ReportedLemmas.{At}
use Rattle.coniks_c.specs.CoreReported.{IsIndexedBy}

module _ (reported : ℕ) (index : List ℕ) (scheme : Scheme) (stored : List StoredEntry) (name bytes : List ℕ) (indexed : IsIndexedBy scheme name (vrf_part bytes) reported index) where
  pub accepted-alike : (shown : List ShownStep) (count : ℕ) → IsAccepted sha256 (At reported index) stored name bytes shown count → IsAccepted sha256 scheme stored name bytes shown count
  accepted-alike shown count accepted = record {
    steps = accepted.steps;
    index = accepted.index;
    history = accepted.history;
    many = accepted.many;
    indexed = indexed ∙ accepted.indexed;
    passed = accepted.passed;
  }

  pub not-accepted-alike : (room : ℕ) (fault : AcceptFault) → IsNotAccepted sha256 (At reported index) stored name bytes room fault → IsNotAccepted sha256 scheme stored name bytes room fault
  not-accepted-alike room (NoHistory fault) none = none
  not-accepted-alike room VrfProof none = (none.0, indexed ∙ none.1)
  not-accepted-alike room NoRoom none = (none.0, (none.1.0, indexed ∙ none.1.1, none.1.2))
  not-accepted-alike room UnknownEpoch none = (none.0, (none.1.0, indexed ∙ none.1.1, none.1.2))
  not-accepted-alike room (Check fault) none = (none.0, (none.1.0, indexed ∙ none.1.1, none.1.2))

  -- what each step showed
  pub accepted-shown : (shown : List ShownStep) (count : ℕ) → IsAccepted sha256 (At reported index) stored name bytes shown count
      → (k : ℕ) (one : ShownStep) (mine : StoredEntry) → k < count → slice_get shown k ≡ Some one → slice_get stored one.place ≡ Some mine
      → IsShown sha256 scheme (entry_in mine) name (answer_in one)
  accepted-shown shown count accepted k one mine less at there =
      let is = accepted-alike shown count accepted in
      shown-shown sha256 scheme is.index stored name (vrf_part bytes) is.steps shown (sym is.indexed) is.passed k one mine (omega (arith, is.many)) at there

  pub accepted-watched : (shown : List ShownStep) (count : ℕ) (watch : Option Watch) (changes marked : List Change) (new : List StoredEntry)
      → IsAccepted sha256 (At reported index) stored name bytes shown count → AreReported watch name shown stored changes count new marked
      → IfSome watch (λ x. IsWatched sha256 scheme x.name.now (wanted x.key.now) changes stored → IsWatched sha256 scheme x.name.now (wanted x.key.now) marked new)
  accepted-watched shown count watch changes marked new accepted are =
      reported-watched watch name shown stored changes sha256 scheme count new marked are (accepted-shown shown count accepted)

-- the length of a VRF proof is after a version
pub history-vrf_start : (bytes : List ℕ) → drop 3 bytes ≡ drop 2 (drop 1 bytes)
history-vrf_start bytes = sym (drop-drop 2 1 bytes)
