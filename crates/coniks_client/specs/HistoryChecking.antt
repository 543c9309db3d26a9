-- The steps of a history, checked under the stored epochs.
use Rattle.std.specs.Prelude.{◌≡◌, ◌≢◌, ◌<◌, ℕ, List, [], ◌∷◌, Option, Some, None, length, slice_get}
use Rattle.coniks_proof.specs.Faults.{Has, IsFirst}
use Rattle.coniks_proof.specs.Hashing.{hashing}
use Rattle.coniks_proof.specs.Octets.{Octets}
use Rattle.coniks_proof.specs.Proofs.{Accepts}
use Rattle.coniks_proof.specs.declared.checker.CheckFault.{CheckFault}
use Rattle.coniks_proof.specs.declared.paths.End.{End}
use Rattle.coniks_proof.specs.declared.paths.End.TheVariants.{Empty, Other, Here}
use Rattle.coniks_chain.specs.declared.entry.Entry.{Entry}
use Rattle.coniks_client.specs.StoredEntry.{entry_in, epoch_in}
use Rattle.coniks_client.specs.declared.stored.StoredEntry.{StoredEntry}
use Rattle.coniks_client.specs.Histories.{AreNoSteps, AreSteps, latest}
use Rattle.coniks_client.specs.HistorySteps.{EpochProof, IsNoStep, IsStep, Past, proof_of}
use Rattle.coniks_client.specs.declared.histories.faults.AcceptFault.{AcceptFault}
use Rattle.coniks_client.specs.declared.histories.faults.AcceptFault.TheVariants.{NoHistory, VrfProof, NoRoom, UnknownEpoch, Check}
use Rattle.coniks_client.specs.declared.histories.shown.ShownStep.{ShownStep}

-- the key of an end, of no byte if it has none
abbrev pub key_of : End → Octets
key_of Empty = []
key_of (Other index commitment) = []
key_of (Here name key opening) = key

-- the answer that a key says; a key of no byte says that there is none
abbrev pub answer_by : Octets → Option Octets
answer_by [] = None
answer_by (byte ∷ rest) = Some (byte ∷ rest)

-- the answer of a step
abbrev pub answer_in : ShownStep → Option Octets
answer_in one = answer_by one.key.now

-- under an entry, at the index of the name, the proof of a step is accepted with this answer
abbrev pub IsAcceptedUnder : (Octets → Octets) → Octets → Entry → Octets → EpochProof → Option Octets → Type 0
IsAcceptedUnder hash index entry name step answer =
    Accepts (hashing hash entry.body.nonce.0) entry.body.root.0 index name (proof_of step) answer

-- the first error of a proof that is not
abbrev pub IsRefusedUnder : (Octets → Octets) → Octets → Entry → Octets → EpochProof → CheckFault → Type 0
IsRefusedUnder hash index entry name step fault =
    IsFirst (Has (hashing hash entry.body.nonce.0) entry.body.root.0 index name (proof_of step)) fault

-- the step's epoch is stored at this place, and its proof is accepted there with this answer
pub record Passes (hash : Octets → Octets) (index : Octets) (stored : List StoredEntry) (name : Octets) (step : EpochProof) (place : ℕ) (answer : Option Octets) : Type 0 where
  pub mine : StoredEntry
  pub there : slice_get stored place ≡ Some mine
  pub epoch : epoch_in mine ≡ step.epoch
  pub accepted : IsAcceptedUnder hash index (entry_in mine) name step answer

-- the first error of a step that does not: its epoch is not stored, or its proof is refused there
abbrev pub PassesNot : (Octets → Octets) → Octets → List StoredEntry → Octets → EpochProof → AcceptFault → Type 0
PassesNot hash index stored name step UnknownEpoch = (k : ℕ) (mine : StoredEntry) → slice_get stored k ≡ Some mine → epoch_in mine ≢ step.epoch
PassesNot hash index stored name step (Check fault) = (place : ℕ) × (mine : StoredEntry) × (slice_get stored place ≡ Some mine)
    × (epoch_in mine ≡ step.epoch) × IsRefusedUnder hash index (entry_in mine) name step fault
PassesNot hash index stored name step _ = ⊥

-- the error of the next step, after one that left this: of its bytes, or of the step that they are
abbrev pub NextPassesNot : (Octets → Octets) → Octets → List StoredEntry → Octets → Past → Octets → AcceptFault → Type 0
NextPassesNot hash index stored name past bytes (NoHistory fault) = IsNoStep past bytes fault
NextPassesNot hash index stored name past bytes fault = (step : EpochProof) × (rest : Octets) × IsStep past bytes step rest × PassesNot hash index stored name step fault

-- each step passes, and what it showed is in its place; the steps have the latest first
abbrev pub AreShown : (Octets → Octets) → Octets → List StoredEntry → Octets → List EpochProof → List ShownStep → Type 0
AreShown hash index stored name [] shown = Unit {0}
AreShown hash index stored name (step ∷ earlier) shown = (one : ShownStep) × (slice_get shown (length earlier) ≡ Some one)
    × Passes hash index stored name step one.place (answer_in one) × AreShown hash index stored name earlier shown

-- one place was written
pub record IsWritten (old new : List ShownStep) (place : ℕ) (one : ShownStep) : Type 0 where
  pub others : (k : ℕ) → k ≢ place → slice_get new k ≡ slice_get old k
  pub here : slice_get new place ≡ Some one

-- the bytes begin with steps, this many, each of which passes; the latest one left this, and this follows
abbrev pub AreCheckedTo : (Octets → Octets) → Octets → List StoredEntry → Octets → Octets → List ShownStep → Past → Octets → ℕ → Type 0
AreCheckedTo hash index stored name bytes shown past rest count = (steps : List EpochProof) × AreSteps bytes steps rest
    × (latest steps ≡ past) × (length steps ≡ count) × AreShown hash index stored name steps shown

-- the bytes are steps, this many, each of which passes
abbrev pub AreChecked : (Octets → Octets) → Octets → List StoredEntry → Octets → Octets → List ShownStep → ℕ → Type 0
AreChecked hash index stored name bytes shown count = (steps : List EpochProof) × AreSteps bytes steps []
    × (length steps ≡ count) × AreShown hash index stored name steps shown

-- the first error of steps: bytes that are none; after steps that pass there is no room, or the next one does not pass
abbrev pub AreUnchecked : (Octets → Octets) → Octets → List StoredEntry → Octets → Octets → ℕ → AcceptFault → Type 0
AreUnchecked hash index stored name bytes room (NoHistory fault) = AreNoSteps bytes fault
AreUnchecked hash index stored name bytes room VrfProof = ⊥
AreUnchecked hash index stored name bytes room NoRoom = (shown : List ShownStep) × (past : Past) × (rest : Octets)
    × AreCheckedTo hash index stored name bytes shown past rest room × (0 < length rest)
AreUnchecked hash index stored name bytes room fault = (shown : List ShownStep) × (past : Past) × (rest : Octets) × (count : ℕ)
    × AreCheckedTo hash index stored name bytes shown past rest count × (count < room) × NextPassesNot hash index stored name past rest fault
