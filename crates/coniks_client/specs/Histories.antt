-- The bytes of a history: a version, a VRF proof with its length in two bytes, and steps.
use Rattle.std.specs.Prelude.{◌≡◌, ◌≢◌, ◌<◌, ◌≤◌, ◌⊎◌, ◌+◌, ℕ, List, [], ◌∷◌, drop, length, slice_index}
use Rattle.coniks_proof.specs.Octets.{Octets}
use Rattle.coniks_proof.specs.Wire.{after_name, short_length}
use Rattle.coniks_client.specs.Replies.{sized_part}
use Rattle.coniks_client.specs.HistorySteps.{EpochProof, IsNoStep, IsStep, Past, after, start}
use Rattle.coniks_client.specs.declared.histories.faults.HistoryFault.{HistoryFault}
use Rattle.coniks_client.specs.declared.histories.faults.HistoryFault.TheVariants.{CutInVrf, HistoryVersion, NoHistory}

-- what follows the version, the VRF proof, and the steps
abbrev pub after_version : Octets → Octets
after_version bytes = drop 1 bytes

abbrev pub vrf_part : Octets → Octets
vrf_part bytes = sized_part (after_version bytes)

abbrev pub steps_part : Octets → Octets
steps_part bytes = after_name (after_version bytes)

-- the version is known, and the VRF proof is not cut
pub record IsOpened (bytes : Octets) : Type 0 where
  pub version : slice_index bytes 0 ≡ 1
  pub vrf : 2 + short_length (after_version bytes) ≤ length (after_version bytes)

-- the first error of bytes of which this is not so
abbrev pub IsUnopened : Octets → HistoryFault → Type 0
IsUnopened bytes NoHistory = length bytes ≡ 0
IsUnopened bytes HistoryVersion = (0 < length bytes) × (slice_index bytes 0 ≢ 1)
IsUnopened bytes CutInVrf = (slice_index bytes 0 ≡ 1) × (length (after_version bytes) < 2 + short_length (after_version bytes))
IsUnopened bytes _ = ⊥

-- what the latest step left; the steps have the latest first
abbrev pub latest : List EpochProof → Past
latest [] = start
latest (step ∷ earlier) = after step

-- the bytes begin with these steps, the latest first, and this follows
abbrev pub AreSteps : Octets → List EpochProof → Octets → Type 0
AreSteps bytes [] rest = rest ≡ bytes
AreSteps bytes (step ∷ earlier) rest = (before : Octets) × AreSteps bytes earlier before × IsStep (latest earlier) before step rest

-- the bytes are steps, this many
abbrev pub HasSteps : Octets → ℕ → Type 0
HasSteps bytes count = (steps : List EpochProof) × AreSteps bytes steps [] × (length steps ≡ count)

-- the bytes begin with steps, this many; the latest one left this, and this follows
abbrev pub IsReadTo : Octets → Past → Octets → ℕ → Type 0
IsReadTo bytes past rest count = (steps : List EpochProof) × AreSteps bytes steps rest × (latest steps ≡ past) × (length steps ≡ count)

-- the bytes are a history, and its steps are these, the latest first
pub record IsHistory (bytes : Octets) (steps : List EpochProof) : Type 0 where
  pub opened : IsOpened bytes
  pub steps_are : AreSteps (steps_part bytes) steps []

-- the first error of bytes of steps: after some steps, bytes follow that begin with no step
abbrev pub AreNoSteps : Octets → HistoryFault → Type 0
AreNoSteps bytes fault = (steps : List EpochProof) × (rest : Octets) × AreSteps bytes steps rest × (0 < length rest) × IsNoStep (latest steps) rest fault

-- the first error of bytes that are no history: of what is before the steps, or of a step
abbrev pub IsNoHistory : Octets → HistoryFault → Type 0
IsNoHistory bytes fault = IsUnopened bytes fault ⊎ (IsOpened bytes × AreNoSteps (steps_part bytes) fault)

-- Bytes are the history of one list of steps at most.
abbrev pub OneListLaw : Type 0
OneListLaw = (bytes : Octets) (steps others : List EpochProof) → IsHistory bytes steps → IsHistory bytes others → steps ≡ others

-- Bytes of a history have no error.
abbrev pub NoErrorLaw : Type 0
NoErrorLaw = (bytes : Octets) (steps : List EpochProof) (fault : HistoryFault) → IsHistory bytes steps → ¬ IsNoHistory bytes fault

-- each is a number from 0 to 255
abbrev pub AreBytes : Octets → Type 0
AreBytes bytes = (i : ℕ) → slice_index bytes i < 256

-- A list of steps, with a VRF proof, has one byte string at most.
abbrev pub OneFormLaw : Type 0
OneFormLaw = (bytes others : Octets) (steps : List EpochProof) → AreBytes bytes → AreBytes others → IsHistory bytes steps → IsHistory others steps
    → vrf_part bytes ≡ vrf_part others → bytes ≡ others
