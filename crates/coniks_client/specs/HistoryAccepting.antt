-- When a client accepts a history, and why not.
use Rattle.std.specs.Prelude.{◌≡◌, ℕ, List, Some, None, length}
use Rattle.coniks_proof.specs.Octets.{Octets}
use Rattle.coniks_client.specs.Owner.{Scheme}
use Rattle.coniks_client.specs.declared.stored.StoredEntry.{StoredEntry}
use Rattle.coniks_client.specs.HistoryChecking.{AreShown, AreUnchecked}
use Rattle.coniks_client.specs.Histories.{IsHistory, IsNoHistory, steps_part, vrf_part}
use Rattle.coniks_client.specs.HistorySteps.{EpochProof}
use Rattle.coniks_client.specs.declared.histories.faults.AcceptFault.{AcceptFault}
use Rattle.coniks_client.specs.declared.histories.faults.AcceptFault.TheVariants.{NoHistory, VrfProof}
use Rattle.coniks_client.specs.declared.histories.shown.ShownStep.{ShownStep}

-- the bytes are a history of this many steps, its VRF proof is one of the name, and each step passes
pub record IsAccepted (hash : Octets → Octets) (scheme : Scheme) (stored : List StoredEntry) (name bytes : Octets) (shown : List ShownStep) (count : ℕ) : Type 0 where
  pub steps : List EpochProof
  pub index : Octets
  pub history : IsHistory bytes steps
  pub many : length steps ≡ count
  pub indexed : scheme name (vrf_part bytes) ≡ Some index
  pub passed : AreShown hash index stored name steps shown

-- the bytes are a history, whatever its steps are
abbrev pub IsAnyHistory : Octets → Type 0
IsAnyHistory bytes = (steps : List EpochProof) × IsHistory bytes steps

-- the first error of a history: of its bytes, of the VRF proof, of its steps
abbrev pub IsNotAccepted : (Octets → Octets) → Scheme → List StoredEntry → Octets → Octets → ℕ → AcceptFault → Type 0
IsNotAccepted hash scheme stored name bytes room (NoHistory fault) = IsNoHistory bytes fault
IsNotAccepted hash scheme stored name bytes room VrfProof = IsAnyHistory bytes × (scheme name (vrf_part bytes) ≡ None)
IsNotAccepted hash scheme stored name bytes room fault = IsAnyHistory bytes
    × ((index : Octets) × (scheme name (vrf_part bytes) ≡ Some index) × AreUnchecked hash index stored name (steps_part bytes) room fault)
