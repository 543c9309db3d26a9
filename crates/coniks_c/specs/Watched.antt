-- What a monitor for C sees, and when its step is refused.
use Rattle.std.specs.Prelude.{◌≡◌, ◌∷◌, [], Bool, Option, Some, None}
use Rattle.coniks_proof.specs.Octets.{Octets}
use Rattle.coniks_proof.specs.Proofs.{answer_of}
use Rattle.coniks_proof.specs.Sha256.{sha256}
use Rattle.coniks_proof.specs.Wire.{IsWire}
use Rattle.coniks_proof.specs.declared.paths.Proof.{Proof}
use Rattle.coniks_chain.specs.Seen.{seen_of}
use Rattle.coniks_chain.specs.Watch.{IsSoundStep, IsFirstStepFault}
use Rattle.coniks_chain.specs.declared.auditor.AuditorState.{AuditorState}
use Rattle.coniks_chain.specs.declared.entry.Entry.{Entry}
use Rattle.coniks_chain.specs.declared.seen.MonitorFault.{MonitorFault}
use Rattle.coniks_chain.specs.declared.seen.Seen.{Seen}

-- the expected key, none if there are no bytes
abbrev pub expectation : Octets → Option Octets
expectation [] = None
expectation (b ∷ bytes) = Some (b ∷ bytes)

-- the bytes are a proof's, the step with it is sound, and this is seen
abbrev pub Sees : (Octets → Octets → Bool) → Option AuditorState → Octets → Octets → Option Octets → Entry → Octets → Seen → Type 0
Sees verdict before name index expected entry bytes seen =
    (proof : Proof) × IsWire bytes proof × IsSoundStep sha256 verdict before name index entry proof (answer_of proof.end)
    × (seen ≡ seen_of expected (answer_of proof.end))

-- the bytes are a proof's, and this is the first error of the step with it
abbrev pub IsRefusedStep : (Octets → Octets → Bool) → Option AuditorState → Octets → Octets → Entry → Octets → MonitorFault → Type 0
IsRefusedStep verdict before name index entry bytes fault =
    (proof : Proof) × IsWire bytes proof × IsFirstStepFault sha256 verdict before name index entry proof fault
