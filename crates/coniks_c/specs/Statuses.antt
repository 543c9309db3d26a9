-- The numbers that a call returns.
use Rattle.std.specs.Prelude.{◌≡◌, ◌+◌, ℕ, Option, Some, None}
use Rattle.coniks_proof.specs.Faults.{number}
use Rattle.coniks_proof.specs.Octets.{Octets}
use Rattle.coniks_proof.specs.Wire.{order}
use Rattle.coniks_proof.specs.declared.checker.CheckFault.{CheckFault}
use Rattle.coniks_proof.specs.declared.wire.WireFault.{WireFault}
use Rattle.coniks_chain.specs.Chain.{place_of}
use Rattle.coniks_chain.specs.declared.auditor.AuditFault.{AuditFault}
use Rattle.coniks_chain.specs.declared.evidence.EvidenceKind.{EvidenceKind}
use Rattle.coniks_chain.specs.declared.evidence.EvidenceKind.TheVariants.{Overlap, OtherPolicy, Malformed}
use Rattle.coniks_chain.specs.declared.seen.Seen.{Seen}
use Rattle.coniks_chain.specs.declared.seen.Seen.TheVariants.{Same, Changed, Absent}
use Rattle.coniks_c.specs.Numbers.{absent, changed, entry_length, evidence_malformed, evidence_other_policy, evidence_overlap, good, no_entry}
use Rattle.coniks_c.specs.declared.text.Refusal.{Refusal}
use Rattle.coniks_c.specs.declared.text.Refusal.TheVariants.{Check, Wire, Audit, EntryLength, NoEntry}

-- the status of an accepted answer
abbrev pub status_of_answer : Option Octets → ℕ
status_of_answer (Some key) = good
status_of_answer None = absent

-- the status of what a client sees
abbrev pub status_of_seen : Seen → ℕ
status_of_seen Same = good
status_of_seen Absent = absent
status_of_seen Changed = changed

-- the number of a kind of evidence
abbrev pub number_of_kind : EvidenceKind → ℕ
number_of_kind Overlap = evidence_overlap
number_of_kind OtherPolicy = evidence_other_policy
number_of_kind Malformed = evidence_malformed

-- an error of a proof, of bytes that are not a proof, and of an entry
abbrev pub IsCheckStatus : ℕ → Type 0
IsCheckStatus status = (fault : CheckFault) × (status ≡ number fault + 1)

abbrev pub IsWireStatus : ℕ → Type 0
IsWireStatus status = (fault : WireFault) × (status ≡ order fault + 16)

abbrev pub IsAuditStatus : ℕ → Type 0
IsAuditStatus status = (fault : AuditFault) × (status ≡ place_of fault + 33)

-- what a client sees
abbrev pub IsSeenStatus : ℕ → Type 0
IsSeenStatus status = (seen : Seen) × (status ≡ status_of_seen seen)

-- the status of whatever is refused
abbrev pub refusal_status : Refusal → ℕ
refusal_status (Check fault) = number fault + 1
refusal_status (Wire fault) = order fault + 16
refusal_status (Audit fault) = place_of fault + 33
refusal_status EntryLength = entry_length
refusal_status NoEntry = no_entry
