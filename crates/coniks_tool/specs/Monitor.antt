-- What `monitor` replies to a line.
use Rattle.std.specs.Prelude.{codes, Bool, false, Option, Some, None, if◌then◌else◌}
use Rattle.std.specs.Option.{option_map_or}
use Rattle.std.specs.Str.{bytes_eq}
use Rattle.coniks_proof.specs.Hashing.{hashing}
use Rattle.coniks_proof.specs.Octets.{Octets}
use Rattle.serde_json.specs.Data.{Data}
use Rattle.coniks_lines.specs.Machine.{Answer}
use Rattle.coniks_proof.specs.Sha256.{sha256}
use Rattle.coniks_proof.specs.Proofs.{answer_of}
use Rattle.coniks_proof.specs.declared.paths.Proof.{Proof as ProofOf}
use Rattle.coniks_proof.specs.declared.checker.CheckFault.{CheckFault}
use Rattle.coniks_chain.specs.Chain.{auditor_after}
use Rattle.coniks_chain.specs.Seen.{seen_of}
use Rattle.coniks_chain.specs.Watch.{Watched}
use Rattle.coniks_chain.specs.declared.auditor.AuditFault.{AuditFault}
use Rattle.coniks_chain.specs.declared.auditor.AuditorState.{AuditorState}
use Rattle.coniks_chain.specs.declared.entry.Entry.{Entry as EntryOf}
use Rattle.coniks_chain.specs.declared.seen.MonitorFault.TheVariants.{Audit, Check}
use Rattle.coniks_tool.specs.AuditFaults.{audit_fault}
use Rattle.coniks_tool.specs.CheckFaults.{check_fault}
use Rattle.coniks_tool.specs.Demo.{demo_index}
use Rattle.coniks_programs.specs.EntryLines.{entry_in}
use Rattle.coniks_tool.specs.Expectations.{expected_in}
use Rattle.coniks_programs.specs.Members.{object_in, text_in}
use Rattle.coniks_tool.specs.MonitorReplies.{MonitorOutcome, watched, expecting, not_json, no_member, at_fault, monitor_data, is_as_expected}
use Rattle.coniks_programs.specs.ProofObjects.{proof_in}
use Rattle.coniks_tool.specs.Seal.{is_seal}
use Rattle.coniks_programs.specs.Turns.{Turn, refused, answer_by}
use Rattle.coniks_programs.specs.declared.printing.Member.TheVariants.{Key, Proof, Entry}

-- the key of the seal, the name and its index, what the next entry is compared with, and the key that is expected, if one is
pub record MonitorState : Type 0 where
  pub key : Octets
  pub name : Octets
  pub index : Octets
  pub before : Option AuditorState
  pub expected : Option Octets

-- no entry was accepted yet, and the index is that of the name
abbrev pub none_watched : Octets → Octets → Option Octets → MonitorState
none_watched key name expected = record { key = key; name = name; index = demo_index key name; before = None; expected = expected }

-- what a monitor of the chain keeps, under the key of its seal
abbrev pub watching : {H : Type 0} → Octets → Watched H → MonitorState
watching key w = record { key = key; name = w.name; index = w.index; before = w.before; expected = w.expected }

-- what comes of a line, and the state after it
abbrev pub MonitorTurn : Type 0
MonitorTurn = Turn MonitorOutcome MonitorState

-- an accepted entry with a proof that has this first error: the state stays. One with none is what the next one is compared with
abbrev pub checked_turn : MonitorState → EntryOf → ProofOf → Option CheckFault → MonitorTurn
checked_turn s entry proof (Some fault) = refused s (at_fault (Check fault))
checked_turn s entry proof None =
    record {
      outcome = watched entry.body.t (seen_of s.expected (answer_of proof.end));
      state = record s { before = Some (auditor_after sha256 entry) };
    }

-- an entry with this first error is refused and the state stays; under one with none the proof is checked, for the name at its index
abbrev pub audited_turn : MonitorState → EntryOf → ProofOf → Option AuditFault → MonitorTurn
audited_turn s entry proof (Some fault) = refused s (at_fault (Audit fault))
audited_turn s entry proof None =
    checked_turn s entry proof (check_fault (hashing sha256 entry.body.nonce.0) entry.body.root.0 s.index s.name proof)

-- an entry with its proof
abbrev pub step_turn : MonitorState → EntryOf → ProofOf → MonitorTurn
step_turn s entry proof = audited_turn s entry proof (audit_fault (is_seal s.key) s.before entry)

-- a line with this entry and this proof, if there are such
abbrev pub watch_turn : MonitorState → Option EntryOf → Option ProofOf → MonitorTurn
watch_turn s None proof = refused s (no_member Entry)
watch_turn s (Some entry) None = refused s (no_member Proof)
watch_turn s (Some entry) (Some proof) = step_turn s entry proof

-- a line that sets the expectation
abbrev pub expect_turn : MonitorState → Option (Option Octets) → MonitorTurn
expect_turn s None = refused s (no_member Key)
expect_turn s (Some expected) = record { outcome = expecting; state = record s { expected = expected } }

-- the line sets the expectation
abbrev pub is_expect : Option Octets → Bool
is_expect command = option_map_or (λ text. bytes_eq text (codes "expect")) command false

-- an object
abbrev pub object_turn : MonitorState → Data → MonitorTurn
object_turn s d = if is_expect (text_in (codes "cmd") d) then expect_turn s (expected_in d) else watch_turn s (entry_in d) (proof_in d)

-- what comes of a line
abbrev pub monitor_turn : MonitorState → Octets → MonitorTurn
monitor_turn s line = option_map_or (object_turn s) (object_in line) (refused s not_json)

-- the reply to a line
abbrev pub monitor_answer : MonitorState → Octets → Answer MonitorState
monitor_answer s line = answer_by monitor_data is_as_expected (monitor_turn s line)
