-- A refused line leaves the state unchanged.
use Rattle.std.proofs.Common.{◌≡◌, ◌⊎◌, inl, inr, ℕ, List, Bool, true, false, Option, Some, None, refl, sym}
use Rattle.std.specs.Prelude.{codes, Result, Ok, Err, if◌then◌else◌}
use Rattle.std.specs.Option.{option_map_or}
use Rattle.std.specs.Str.{bytes_eq}
use Rattle.std.proofs.lemmas.Bool.{false≢true}
use Rattle.serde_json.specs.Data.{Data, Items}
use Rattle.coniks_proof.specs.Sha256.{sha256}
use Rattle.coniks_proof.specs.Batches.{Operation}
use Rattle.coniks_proof.specs.Hashing.{hashing}
use Rattle.coniks_proof.specs.declared.paths.Proof.{Proof}
use Rattle.coniks_proof.specs.declared.checker.CheckFault.{CheckFault}
use Rattle.coniks_chain.specs.declared.auditor.AuditFault.{AuditFault}
use Rattle.coniks_chain.specs.declared.entry.Entry.{Entry}
use Rattle.coniks_chain.specs.declared.seen.Seen.{Seen}
use Rattle.coniks_chain.specs.Seen.{seen_of}
use Rattle.coniks_proof.specs.Proofs.{answer_of}
use Rattle.coniks_tool.specs.Audit.{AuditState, AuditTurn, audit_turn, entry_turn, judged_turn}
use Rattle.coniks_tool.specs.AuditFaults.{audit_fault}
use Rattle.coniks_tool.specs.AuditReplies.{is_audited}
use Rattle.coniks_tool.specs.AuditReplies as audit
use Rattle.coniks_tool.specs.CheckFaults.{check_fault}
use Rattle.coniks_tool.specs.Demo.{demo_index}
use Rattle.coniks_programs.specs.EntryLines.{entry_in}
use Rattle.coniks_tool.specs.Expectations.{expected_in}
use Rattle.coniks_programs.specs.Members.{object_in, text_in, number_in, array_in, digits_in, if_there}
use Rattle.coniks_tool.specs.Monitor.{MonitorState, MonitorTurn, audited_turn, checked_turn, expect_turn, is_expect, monitor_turn, object_turn, watch_turn}
use Rattle.coniks_tool.specs.MonitorReplies.{expecting, watched}
use Rattle.coniks_tool.specs.MonitorReplies as monitor
use Rattle.coniks_programs.specs.Operations.{operations_in}
use Rattle.coniks_programs.specs.ProofObjects.{proof_in}
use Rattle.coniks_tool.specs.Refusals.{refusal}
use Rattle.coniks_programs.specs.Refusals.{Refusal, not_json}
use Rattle.coniks_tool.specs.ScriptReplies.{because, is_accepted}
use Rattle.coniks_directory.specs.Runs.{Batch}
use Rattle.coniks_tool.specs.Script.{ScriptDirectory, ScriptState, ScriptTurn, batch_on, batch_read, batch_turn, batch_with, command_turn, open_turn, open_with, turn}
use Rattle.coniks_tool.specs.Seal.{is_seal}
use Rattle.coniks_programs.specs.Turns.{refused}

-- what holds of both branches holds of the choice
either : {T : Type 0} → (P : T → Type 0) (b : Bool) (t u : T) → P t → P u → P (if b then t else u)
either P true t u first second = first
either P false t u first second = second

-- a line of `run`

abbrev Keeps : ScriptState → ScriptTurn → Type 0
Keeps s t = is_accepted t.outcome ≡ false → t.state ≡ s

open_with-keeps : (s : ScriptState) (key nonce policy : List ℕ) → Keeps s (open_with s key nonce policy)
open_with-keeps None key nonce policy off = absurd (false≢true (sym off))
open_with-keeps (Some o) key nonce policy off = refl

open-keeps : (s : ScriptState) (key nonce policy : Option (List ℕ)) → Keeps s (open_turn s key nonce policy)
open-keeps s None _ _ off = refl
open-keeps s (Some key) None _ off = refl
open-keeps s (Some key) (Some nonce) None off = refl
open-keeps s (Some key) (Some nonce) (Some policy) off = open_with-keeps s key nonce policy off

batch_on-keeps : (o : ScriptDirectory) (b : Batch) (why : Option Refusal) → Keeps (Some o) (batch_on o b why)
batch_on-keeps o b (Some why) off = refl
batch_on-keeps o b None off = absurd (false≢true (sym off))

batch_with-keeps : (s : ScriptState) (b : Batch) → Keeps s (batch_with s b)
batch_with-keeps None b off = refl
batch_with-keeps (Some o) b off = batch_on-keeps o b (refusal (demo_index o.key) o.history b.t b.ops) off

batch_read-keeps : (s : ScriptState) (epoch : ℕ) (new_nonce : Option (List ℕ)) (read : Result (List Operation) ℕ) → Keeps s (batch_read s epoch new_nonce read)
batch_read-keeps s epoch new_nonce (Err place) off = refl
batch_read-keeps s epoch new_nonce (Ok ops) off = batch_with-keeps s (record { t = epoch; new_nonce = new_nonce; ops = ops }) off

batch-keeps : (s : ScriptState) (epoch : Option ℕ) (new_nonce : Option (Option (List ℕ))) (items : Option Items) → Keeps s (batch_turn s epoch new_nonce items)
batch-keeps s None new_nonce items off = refl
batch-keeps s (Some epoch) None items off = refl
batch-keeps s (Some epoch) (Some new_nonce) None off = refl
batch-keeps s (Some epoch) (Some new_nonce) (Some items) off = batch_read-keeps s epoch new_nonce (operations_in items) off

command-keeps : (s : ScriptState) (d : Data) (name : Option (List ℕ)) → Keeps s (command_turn s d name)
command-keeps s d None = λ off. refl
command-keeps s d (Some name) =
    either (Keeps s) (bytes_eq name (codes "open")) _ _ (open-keeps s (digits_in 32 (codes "key") d) (digits_in 32 (codes "nonce") d) (digits_in 32 (codes "policy") d))
    (either (Keeps s) (bytes_eq name (codes "batch")) _ _ (batch-keeps s (number_in (codes "epoch") d) (if_there (codes "nonce") d (digits_in 32 (codes "nonce") d)) (array_in (codes "ops") d))
    (either (Keeps s) (bytes_eq name (codes "lookup")) _ _ (λ off. refl) (λ off. refl)))

object-keeps : (s : ScriptState) (d : Option Data) → Keeps s (option_map_or (λ d. command_turn s d (text_in (codes "cmd") d)) d (refused s (because not_json)))
object-keeps s None = λ off. refl
object-keeps s (Some d) = command-keeps s d (text_in (codes "cmd") d)

pub turn-keeps : (s : ScriptState) (line : List ℕ) → is_accepted (turn s line).outcome ≡ false → (turn s line).state ≡ s
turn-keeps s line = object-keeps s (object_in line)

-- a line of `audit`

abbrev KeepsAudit : AuditState → AuditTurn → Type 0
KeepsAudit s t = is_audited t.outcome ≡ false → t.state ≡ s

judged-keeps : (s : AuditState) (entry : Entry) (fault : Option AuditFault) → KeepsAudit s (judged_turn s entry fault)
judged-keeps s entry (Some fault) off = refl
judged-keeps s entry None off = absurd (false≢true (sym off))

entry-keeps : (s : AuditState) (entry : Option Entry) → KeepsAudit s (entry_turn s entry)
entry-keeps s None off = refl
entry-keeps s (Some entry) off = judged-keeps s entry (audit_fault (is_seal s.key) s.before entry) off

audit_object-keeps : (s : AuditState) (d : Option Data) → KeepsAudit s (option_map_or (λ d. entry_turn s (entry_in d)) d (refused s audit.not_json))
audit_object-keeps s None off = refl
audit_object-keeps s (Some d) off = entry-keeps s (entry_in d) off

pub audit-keeps : (s : AuditState) (line : List ℕ) → is_audited (audit_turn s line).outcome ≡ false → (audit_turn s line).state ≡ s
audit-keeps s line = audit_object-keeps s (object_in line)

-- a line of `monitor`

abbrev Watches : MonitorTurn → Type 0
Watches t = (epoch : ℕ) × ((seen : Seen) × (t.outcome ≡ watched epoch seen))

abbrev KeepsMonitor : MonitorState → MonitorTurn → Type 0
KeepsMonitor s t = (t.state ≡ s) ⊎ ((t.outcome ≡ expecting) ⊎ Watches t)

checked-keeps : (s : MonitorState) (entry : Entry) (proof : Proof) (fault : Option CheckFault) → KeepsMonitor s (checked_turn s entry proof fault)
checked-keeps s entry proof (Some fault) = inl refl
checked-keeps s entry proof None = inr (inr (entry.body.t, (seen_of s.expected (answer_of proof.end), refl)))

audited-keeps : (s : MonitorState) (entry : Entry) (proof : Proof) (fault : Option AuditFault) → KeepsMonitor s (audited_turn s entry proof fault)
audited-keeps s entry proof (Some fault) = inl refl
audited-keeps s entry proof None = checked-keeps s entry proof (check_fault (hashing sha256 entry.body.nonce.0) entry.body.root.0 s.index s.name proof)

watch-keeps : (s : MonitorState) (entry : Option Entry) (proof : Option Proof) → KeepsMonitor s (watch_turn s entry proof)
watch-keeps s None proof = inl refl
watch-keeps s (Some entry) None = inl refl
watch-keeps s (Some entry) (Some proof) = audited-keeps s entry proof (audit_fault (is_seal s.key) s.before entry)

expect-keeps : (s : MonitorState) (expected : Option (Option (List ℕ))) → KeepsMonitor s (expect_turn s expected)
expect-keeps s None = inl refl
expect-keeps s (Some expected) = inr (inl refl)

monitor_object-keeps : (s : MonitorState) (d : Option Data) → KeepsMonitor s (option_map_or (object_turn s) d (refused s monitor.not_json))
monitor_object-keeps s None = inl refl
monitor_object-keeps s (Some d) =
    either (KeepsMonitor s) (is_expect (text_in (codes "cmd") d)) (expect_turn s (expected_in d))
    (watch_turn s (entry_in d) (proof_in d)) (expect-keeps s (expected_in d)) (watch-keeps s (entry_in d) (proof_in d))

pub monitor-keeps : (s : MonitorState) (line : List ℕ) → KeepsMonitor s (monitor_turn s line)
monitor-keeps s line = monitor_object-keeps s (object_in line)
