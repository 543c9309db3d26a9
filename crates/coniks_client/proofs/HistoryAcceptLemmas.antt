-- Why a history is refused, and when it is accepted.
use Rattle.std.proofs.Common.{◌≡◌, ℕ, List, [], length, Some, inr, sym, subst}
use Rattle.coniks_client.specs.Owner.{Scheme}
use Rattle.coniks_client.specs.declared.stored.StoredEntry.{StoredEntry}
use Rattle.coniks_client.specs.HistoryAccepting.{IsAccepted, IsAnyHistory, IsNotAccepted}
use Rattle.coniks_client.specs.HistoryChecking.{AreShown, AreUnchecked}
use Rattle.coniks_client.specs.Histories.{AreSteps, IsHistory, steps_part, vrf_part}
use Rattle.coniks_client.specs.HistorySteps.{EpochProof}
use Rattle.coniks_client.specs.declared.histories.faults.AcceptFault.{AcceptFault}
use Rattle.coniks_client.specs.declared.histories.faults.AcceptFault.TheVariants.{NoHistory, VrfProof, NoRoom, UnknownEpoch, Check}
use Rattle.coniks_client.specs.declared.histories.shown.ShownStep.{ShownStep}

module _ (hash : List ℕ → List ℕ) (scheme : Scheme) (stored : List StoredEntry) (name bytes : List ℕ) (room : ℕ) (index vrf : List ℕ)
    (any : IsAnyHistory bytes) (vrf_is : vrf ≡ vrf_part bytes) (found : Some index ≡ scheme name vrf) where
  indexed : scheme name (vrf_part bytes) ≡ Some index
  indexed = sym (subst (λ (v : List ℕ). Some index ≡ scheme name v) vrf_is found)

  by : (fault : AcceptFault) → AreUnchecked hash index stored name (steps_part bytes) room fault → IsNotAccepted hash scheme stored name bytes room fault
  by (NoHistory fault) none = inr (any.1.opened, none)
  by VrfProof none = absurd none
  by NoRoom none = (any, (index, indexed, none))
  by UnknownEpoch none = (any, (index, indexed, none))
  by (Check fault) none = (any, (index, indexed, none))

  pub unchecked : (steps : List ℕ) (fault : AcceptFault) → steps ≡ steps_part bytes → AreUnchecked hash index stored name steps room fault
      → IsNotAccepted hash scheme stored name bytes room fault
  unchecked steps fault is none = by fault (subst (λ (s : List ℕ). AreUnchecked hash index stored name s room fault) is none)

-- the bytes are a history, and each of its steps passes
pub accepted : (hash : List ℕ → List ℕ) (scheme : Scheme) (stored : List StoredEntry) (name bytes index vrf : List ℕ) (read : List EpochProof) → IsHistory bytes read
    → vrf ≡ vrf_part bytes → Some index ≡ scheme name vrf → (rest : List ℕ) (steps : List EpochProof) → rest ≡ steps_part bytes → AreSteps rest steps []
    → (shown : List ShownStep) (count : ℕ) → length steps ≡ count → AreShown hash index stored name steps shown
    → IsAccepted hash scheme stored name bytes shown count
accepted hash scheme stored name bytes index vrf read is vrf_is found rest steps rest_is are shown count many passed = record {
  steps = steps;
  index = index;
  history = record { opened = is.opened; steps_are = subst (λ (r : List ℕ). AreSteps r steps []) rest_is are };
  many = many;
  indexed = sym (subst (λ (v : List ℕ). Some index ≡ scheme name v) vrf_is found);
  passed = passed;
}
