-- Steps of the monitor.
use Rattle.std.proofs.Common.{◌≡◌, Bool, true, false, Option, Some, None, refl, ap, subst, ◌∙◌}
use Rattle.std.specs.Prelude.{is_some}
use Rattle.std.proofs.lemmas.Option.{same_Some}
use Rattle.std.proofs.lemmas.Bool.{false≢true}
use Rattle.coniks_proof.specs.Hashing.{hashing}
use Rattle.coniks_proof.specs.Sha256.{sha256}
use Rattle.coniks_proof.specs.Proofs.{answer_of}
use Rattle.coniks_proof.specs.declared.paths.Proof.{Proof}
use Rattle.coniks_proof.specs.declared.checker.CheckFault.{CheckFault}
use Rattle.coniks_chain.specs.Chain.{Follows, auditor_after}
use Rattle.coniks_chain.specs.declared.auditor.AuditFault.{AuditFault}
use Rattle.coniks_chain.specs.Seen.{seen_of}
use Rattle.coniks_chain.specs.Watch.{IsFirstStepFault, IsSoundStep}
use Rattle.coniks_chain.specs.declared.entry.Entry.{Entry}
use Rattle.coniks_chain.specs.declared.seen.MonitorFault.{MonitorFault}
use Rattle.coniks_chain.specs.declared.seen.MonitorFault.TheVariants.{Audit, Check}
use Rattle.coniks_tool.specs.AuditFaults.{audit_fault}
use Rattle.coniks_tool.specs.CheckFaults.{check_fault}
use Rattle.coniks_tool.specs.Monitor.{MonitorState, MonitorTurn, audited_turn, checked_turn, step_turn}
use Rattle.coniks_tool.specs.MonitorReplies.{MonitorOutcome, watched, expecting, not_json, no_member, at_fault}
use Rattle.coniks_tool.specs.Seal.{is_seal}
use Rattle.coniks_tool.proofs.AuditFaultLemmas.{follows-none, none-follows, first-some, some-first}
use Rattle.coniks_tool.proofs.CheckFaultLemmas.{accepts-none, none-accepts, first-some as first-check, some-first as check-first}

abbrev is_watched : MonitorOutcome → Bool
is_watched (watched epoch seen) = true
is_watched expecting = false
is_watched not_json = false
is_watched (no_member m) = false
is_watched (at_fault fault) = false

abbrev fault_in : MonitorOutcome → Option MonitorFault
fault_in (watched epoch seen) = None
fault_in expecting = None
fault_in not_json = None
fault_in (no_member m) = None
fault_in (at_fault fault) = Some fault

module _ (s : MonitorState) (entry : Entry) (proof : Proof) where
  -- a sound step is watched, and its entry retained
  pub sound-step : IsSoundStep sha256 (is_seal s.key) s.before s.name s.index entry proof (answer_of proof.end)
      → step_turn s entry proof ≡ record { outcome = watched entry.body.t (seen_of s.expected (answer_of proof.end)); state = record s { before = Some (auditor_after sha256 entry) } }
  sound-step sound =
      ap (audited_turn s entry proof) (follows-none (is_seal s.key) s.before entry sound.follows)
      ∙ ap (checked_turn s entry proof) (accepts-none (hashing sha256 entry.body.nonce.0) entry.body.root.0 s.index s.name proof (answer_of proof.end) sound.accepted)

  -- any other step is refused with its first error
  pub refused-step : (fault : MonitorFault) → IsFirstStepFault sha256 (is_seal s.key) s.before s.name s.index entry proof fault
      → step_turn s entry proof ≡ record { outcome = at_fault fault; state = s }
  refused-step (Audit fault) is = ap (audited_turn s entry proof) (first-some (is_seal s.key) s.before entry fault is)
  refused-step (Check fault) is =
      ap (audited_turn s entry proof) (follows-none (is_seal s.key) s.before entry is.0)
      ∙ ap (checked_turn s entry proof) (first-check (hashing sha256 entry.body.nonce.0) entry.body.root.0 s.index s.name proof fault is.1)

  abbrev Sound : Type 0
  Sound = IsSoundStep sha256 (is_seal s.key) s.before s.name s.index entry proof (answer_of proof.end)

  abbrev First : MonitorFault → Type 0
  First fault = IsFirstStepFault sha256 (is_seal s.key) s.before s.name s.index entry proof fault

  abbrev of_entry : Option AuditFault
  of_entry = audit_fault (is_seal s.key) s.before entry

  abbrev of_proof : Option CheckFault
  of_proof = check_fault (hashing sha256 entry.body.nonce.0) entry.body.root.0 s.index s.name proof

  checked_sound : (f : Option CheckFault) → of_proof ≡ f → Follows (is_seal s.key) s.before entry → is_watched (checked_turn s entry proof f).outcome ≡ true → Sound
  checked_sound (Some fault) is follows on = absurd (false≢true on)
  checked_sound None is follows on = record { follows = follows; accepted = none-accepts (hashing sha256 entry.body.nonce.0) entry.body.root.0 s.index s.name proof is }

  audited_sound : (f : Option AuditFault) → of_entry ≡ f → is_watched (audited_turn s entry proof f).outcome ≡ true → Sound
  audited_sound (Some fault) is on = absurd (false≢true on)
  audited_sound None is on = checked_sound of_proof refl (none-follows (is_seal s.key) s.before entry is) on

  -- a watched step is sound
  pub watched-sound : (step_turn s entry proof).outcome ≡ watched entry.body.t (seen_of s.expected (answer_of proof.end)) → Sound
  watched-sound same = audited_sound of_entry refl (ap is_watched same)

  pub sound-watched : Sound → (step_turn s entry proof).outcome ≡ watched entry.body.t (seen_of s.expected (answer_of proof.end))
  sound-watched sound = ap (λ (t : MonitorTurn). t.outcome) (sound-step sound)

  checked_first : (fault : MonitorFault) (f : Option CheckFault) → of_proof ≡ f → Follows (is_seal s.key) s.before entry → fault_in (checked_turn s entry proof f).outcome ≡ Some fault → First fault
  checked_first fault (Some found) is follows some =
      subst First (same_Some (Check found) fault some) (follows, check-first (hashing sha256 entry.body.nonce.0) entry.body.root.0 s.index s.name proof found is)
  checked_first fault None is follows some = absurd (false≢true (ap is_some some))

  audited_first : (fault : MonitorFault) (f : Option AuditFault) → of_entry ≡ f → fault_in (audited_turn s entry proof f).outcome ≡ Some fault → First fault
  audited_first fault (Some found) is some = subst First (same_Some (Audit found) fault some) (some-first (is_seal s.key) s.before entry found is)
  audited_first fault None is some = checked_first fault of_proof refl (none-follows (is_seal s.key) s.before entry is) some

  -- the error that is returned is the first
  pub reported-first : (fault : MonitorFault) → (step_turn s entry proof).outcome ≡ at_fault fault → First fault
  reported-first fault same = audited_first fault of_entry refl (ap fault_in same)

  pub first-reported : (fault : MonitorFault) → First fault → (step_turn s entry proof).outcome ≡ at_fault fault
  first-reported fault first = ap (λ (t : MonitorTurn). t.outcome) (refused-step fault first)
