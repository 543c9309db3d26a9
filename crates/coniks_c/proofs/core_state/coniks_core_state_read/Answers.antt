use Rattle.std.proofs.Common.{ℕ, List, map, subst, sym, take}
use Rattle.coniks_proof.specs.Sha256.{sha256}
use Rattle.coniks_client.specs.StoredEntry.{IsChain, verified_before}
use Rattle.coniks_client.specs.declared.stored.StoredEntry.{StoredEntry}
use Rattle.coniks_quorum.specs.Restoring.{AreVerified}
use Rattle.coniks_quorum.specs.Saved.{mark_from}
use Rattle.coniks_c.specs.CoreStates.{AreValid}
use Rattle.coniks_c.specs.CoreReported.{watch_in}
use Rattle.coniks_c.proofs.CoreStateLemmas.{same-state, unread-chain, valid-count, verified-alike, watched-state}
use Rattle.coniks_c.proofs.core_state.coniks_core_state_read.Goals as goal

pub returns-in-Ok-clause-same : goal.returns-in-Ok-clause-same
returns-in-Ok-clause-same c = λ good.
    let read = c.in-Ok.ensures.ok in
    let parts = c.in-Ok.parts in
    record {
      saved_trust = parts.trust.now;
      saved_marks = map mark_from parts.marks.now;
      is = same-state c.states.ensures.parts c.args.core.now.rules.policy.bytes c.args.state.now parts read.saved read.is read.says
          (take c.put_stored-core.result c.put_stored-core.new.stored) (watch_in c.watch_of-core.result) (take c.put_changes-core.result c.put_changes-core.new.changes)
          (take c.put_alarms-core.result c.put_alarms-core.new.alarms) c.put_changes-core.result c.put_stored-core.ensures.stored c.watch_of-core.ensures c.put_changes-core.ensures
          c.put_alarms-core.ensures.alarms;
      marks_are = c.copy_marks.ensures;
    }

pub returns-in-Ok-clause-chain : goal.returns-in-Ok-clause-chain
returns-in-Ok-clause-chain c = λ good. subst (λ (l : List StoredEntry). IsChain sha256 l) (sym c.put_stored-core.ensures.stored) c.in-Ok.ensures.ok.chain

pub returns-in-Ok-clause-verified : goal.returns-in-Ok-clause-verified
returns-in-Ok-clause-verified c = λ good verdict reported.
    let read = c.in-Ok.ensures.ok in
    let stored = take c.put_stored-core.result c.put_stored-core.new.stored in
    let is = c.put_stored-core.ensures.stored in
    verified-alike verdict c.args.core.now.rules.policy.bytes stored c.args.verdicts.now reported
    (subst (λ (n : ℕ). AreValid c.args.verdicts.now n) (sym (valid-count c.in-Ok.parts.stored.now stored is)) read.valid)
    (subst (λ (l : List StoredEntry). AreVerified verified_before c.args.core.now.rules.policy.bytes l) (sym is) read.verified)

pub returns-in-Ok-clause-watched : goal.returns-in-Ok-clause-watched
returns-in-Ok-clause-watched c = λ good.
    let taken = returns-in-Ok-clause-same c good in
    watched-state c.clients.ensures.watched c.args.core.now.rules.policy.bytes c.args.state.now taken.saved_trust taken.saved_marks (take c.put_stored-core.result c.put_stored-core.new.stored)
    (watch_in c.watch_of-core.result) (take c.put_changes-core.result c.put_changes-core.new.changes) (take c.put_alarms-core.result c.put_alarms-core.new.alarms) taken.is

pub returns-in-Err-clause-unchained : goal.returns-in-Err-clause-unchained
returns-in-Err-clause-unchained c = λ is. unread-chain c.args.core.now c.args.state.now c.args.verdicts.now c.in-Err.status is c.in-Err.ensures.err
