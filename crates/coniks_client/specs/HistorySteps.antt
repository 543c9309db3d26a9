-- A step of a history: the proof of a name at one epoch, as what it has other than the step before.
use Rattle.std.specs.Prelude.{◌≡◌, ◌≢◌, ◌<◌, ◌≤◌, ◌⊎◌, ℕ, List, [], Option, Some, None, drop, length, map, slice_index, take}
use Rattle.std.specs.Int.{from_be_bytes, w64}
use Rattle.std.specs.Option.{option_map}
use Rattle.coniks_proof.specs.Octets.{Octets}
use Rattle.coniks_proof.specs.ProofRefs.{digest_of, owned}
use Rattle.coniks_proof.specs.Wire.{EndHas, IsEndOf, short_length}
use Rattle.coniks_proof.specs.declared.paths.End.{End}
use Rattle.coniks_proof.specs.declared.paths.Proof.{Proof}
use Rattle.coniks_proof.specs.declared.values.TheConstants.{MAX_LEVEL}
use Rattle.coniks_proof.specs.declared.wire.WireFault.{WireFault}
use Rattle.coniks_proof.specs.declared.wire.WireFault.TheVariants.{BytesFollow}
use Rattle.coniks_client.specs.Siblings.{AreGiven, HasNoSiblings, HasSiblings, after_sent, map_part, sent_part}
use Rattle.coniks_client.specs.declared.histories.faults.HistoryFault.{HistoryFault}
use Rattle.coniks_client.specs.declared.histories.faults.HistoryFault.TheVariants.{CutInStep, EndRepeated, EpochOrder, TooDeep, UnknownEnd}
use Rattle.coniks_client.specs.declared.histories.steps.Before.{Before}
use Rattle.coniks_client.specs.declared.histories.steps.Step.{Step}

-- what a step gives: an epoch, and the siblings and the end of its proof
pub record EpochProof : Type 0 where
  pub epoch : ℕ
  pub siblings : List Octets
  pub end : End

-- its proof
abbrev pub proof_of : EpochProof → Proof
proof_of step = record { siblings = map digest_of step.siblings; end = step.end }

-- what the step before left: its epoch, its siblings and its end
pub record Past : Type 0 where
  pub epoch : ℕ
  pub siblings : List Octets
  pub end : Option End

-- nothing, before the first step
abbrev pub start : Past
start = record { epoch = 0; siblings = []; end = None }

-- after a step
abbrev pub after : EpochProof → Past
after step = record { epoch = step.epoch; siblings = step.siblings; end = Some step.end }

-- a step whose siblings are in memory, and what one left
abbrev pub step_in : List Octets → Step → EpochProof
step_in memory step = record { epoch = step.epoch; siblings = take step.count memory; end = owned step.end }

abbrev pub past_in : List Octets → Before → Past
past_in memory before = record { epoch = before.epoch; siblings = take before.count memory; end = option_map owned before.end }

-- the epoch, the kind of the end, the number of siblings, and what follows each
abbrev pub epoch_part : Octets → ℕ
epoch_part bytes = from_be_bytes w64 (take 8 bytes)

abbrev pub after_epoch : Octets → Octets
after_epoch bytes = drop 8 bytes

abbrev pub kind_part : Octets → ℕ
kind_part bytes = slice_index (after_epoch bytes) 0

abbrev pub after_kind : Octets → Octets
after_kind bytes = drop 1 (after_epoch bytes)

abbrev pub count_part : Octets → ℕ
count_part bytes = short_length (after_kind bytes)

abbrev pub after_count : Octets → Octets
after_count bytes = drop 2 (after_kind bytes)

-- a kind of a proof's end, or 3 after a step
abbrev pub IsKnown : Option End → ℕ → Type 0
IsKnown None kind = kind < 3
IsKnown (Some end) kind = kind < 4

abbrev pub IsUnknown : Option End → ℕ → Type 0
IsUnknown None kind = 3 ≤ kind
IsUnknown (Some end) kind = 4 ≤ kind

-- the bytes begin with a later epoch, a kind and a number of siblings
pub record HasFront (epoch : ℕ) (end : Option End) (bytes : Octets) : Type 0 where
  pub whole : 11 ≤ length bytes
  pub later : epoch < epoch_part bytes
  pub known : IsKnown end (kind_part bytes)
  pub few : count_part bytes ≤ MAX_LEVEL

-- the first error of bytes that do not
abbrev pub HasNoFront : ℕ → Option End → Octets → HistoryFault → Type 0
HasNoFront epoch end bytes CutInStep = length bytes < 11
HasNoFront epoch end bytes EpochOrder = (11 ≤ length bytes) × (epoch_part bytes ≤ epoch)
HasNoFront epoch end bytes UnknownEnd = (11 ≤ length bytes) × (epoch < epoch_part bytes) × IsUnknown end (kind_part bytes)
HasNoFront epoch end bytes TooDeep = (11 ≤ length bytes) × (epoch < epoch_part bytes) × IsKnown end (kind_part bytes) × (MAX_LEVEL < count_part bytes)
HasNoFront epoch end bytes _ = ⊥

-- the end of the step before, of which nothing is sent; or an end of this kind that the bytes begin with, which is another one
abbrev pub IsEnd : Option End → ℕ → Octets → End → Octets → Type 0
IsEnd before kind bytes end rest = ((kind ≡ 3) × (before ≡ Some end) × (rest ≡ bytes))
    ⊎ (IsEndOf bytes kind end rest × (before ≢ Some end))

-- the bytes end within an end of this kind
abbrev pub IsCutEnd : ℕ → Octets → Type 0
IsCutEnd kind bytes = (fault : WireFault) × (fault ≢ BytesFollow) × EndHas kind bytes fault

-- the first error of bytes that begin with no end
abbrev pub IsNoEnd : Option End → ℕ → Octets → HistoryFault → Type 0
IsNoEnd before kind bytes CutInStep = IsCutEnd kind bytes
IsNoEnd before kind bytes EndRepeated = (end : End) × (rest : Octets) × IsEndOf bytes kind end rest × (before ≡ Some end)
IsNoEnd before kind bytes _ = ⊥

-- the end's bytes, and what follows them
abbrev pub end_part : Octets → Octets
end_part bytes = after_sent (count_part bytes) (after_count bytes)

-- the bytes begin with a step, and this follows
pub record IsStep (before : Past) (bytes : Octets) (step : EpochProof) (rest : Octets) : Type 0 where
  pub front : HasFront before.epoch before.end bytes
  pub siblings : HasSiblings before.siblings (count_part bytes) (after_count bytes)
  pub epoch_is : step.epoch ≡ epoch_part bytes
  pub siblings_are : AreGiven before.siblings (map_part (count_part bytes) (after_count bytes)) (count_part bytes)
      (sent_part (count_part bytes) (after_count bytes)) step.siblings
  pub end_is : IsEnd before.end (kind_part bytes) (end_part bytes) step.end rest

-- the first error of bytes that do not: of the front, of the siblings, of the end
abbrev pub IsNoStep : Past → Octets → HistoryFault → Type 0
IsNoStep before bytes fault = HasNoFront before.epoch before.end bytes fault
    ⊎ (HasFront before.epoch before.end bytes × HasNoSiblings before.siblings (count_part bytes) (after_count bytes) fault)
    ⊎ (HasFront before.epoch before.end bytes × HasSiblings before.siblings (count_part bytes) (after_count bytes)
    × IsNoEnd before.end (kind_part bytes) (end_part bytes) fault)
