-- What `audit` replies to a line.
use Rattle.std.specs.Prelude.{Option, Some, None}
use Rattle.std.specs.Option.{option_map_or}
use Rattle.coniks_proof.specs.Octets.{Octets}
use Rattle.coniks_lines.specs.Machine.{Answer}
use Rattle.coniks_proof.specs.Sha256.{sha256}
use Rattle.coniks_chain.specs.declared.entry.Entry.{Entry}
use Rattle.coniks_chain.specs.declared.auditor.AuditorState.{AuditorState}
use Rattle.coniks_chain.specs.declared.auditor.AuditFault.{AuditFault}
use Rattle.coniks_chain.specs.Chain.{auditor_after}
use Rattle.coniks_chain.specs.Entries.{link_preimage}
use Rattle.coniks_programs.specs.Members.{object_in}
use Rattle.coniks_tool.specs.Seal.{is_seal}
use Rattle.coniks_programs.specs.EntryLines.{entry_in}
use Rattle.coniks_tool.specs.AuditFaults.{audit_fault}
use Rattle.coniks_tool.specs.AuditReplies.{AuditOutcome, audited, not_json, no_entry, at_fault, audit_data, is_audited}
use Rattle.coniks_programs.specs.Turns.{Turn, refused, answer_by}

-- the key of the seal, and what the next entry is compared with
pub record AuditState : Type 0 where
  pub key : Octets
  pub before : Option AuditorState

-- no entry was accepted yet
abbrev pub none_audited : Octets → AuditState
none_audited key = record { key = key; before = None }

-- what comes of a line, and the state after it
abbrev pub AuditTurn : Type 0
AuditTurn = Turn AuditOutcome AuditState

-- an entry with this first error is refused and the state stays; one with none is what the next one is compared with
abbrev pub judged_turn : AuditState → Entry → Option AuditFault → AuditTurn
judged_turn s entry (Some fault) = refused s (at_fault fault)
judged_turn s entry None = record {
  outcome = audited entry.body.t (sha256 (link_preimage entry));
  state = record { key = s.key; before = Some (auditor_after sha256 entry) };
}

-- an object, by its entry
abbrev pub entry_turn : AuditState → Option Entry → AuditTurn
entry_turn s None = refused s no_entry
entry_turn s (Some entry) = judged_turn s entry (audit_fault (is_seal s.key) s.before entry)

-- what comes of a line
abbrev pub audit_turn : AuditState → Octets → AuditTurn
audit_turn s line = option_map_or (λ d. entry_turn s (entry_in d)) (object_in line) (refused s not_json)

-- the reply to a line
abbrev pub audit_answer : AuditState → Octets → Answer AuditState
audit_answer s line = answer_by audit_data is_audited (audit_turn s line)
