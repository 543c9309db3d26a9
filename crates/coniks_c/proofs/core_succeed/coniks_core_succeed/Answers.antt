use Rattle.std.proofs.Common.{◌≡◌, [], List, map, subst, sym}
use Rattle.coniks_proof.specs.Sha256.{sha256}
use Rattle.coniks_client.specs.declared.stored.StoredEntry.{StoredEntry}
use Rattle.coniks_quorum.proofs.Lemmas.{next-client}
use Rattle.coniks_quorum.specs.Clients.{IsClient}
use Rattle.coniks_c.specs.Core.{stored_in}
use Rattle.coniks_c.specs.CoreSucceeding.{succession_in}
use Rattle.coniks_c.proofs.SucceedLemmas.{refused-in}
use Rattle.coniks_c.proofs.core_succeed.coniks_core_succeed.Goals as goal

pub returns-in-Err-clause-refused : goal.returns-in-Err-clause-refused
returns-in-Err-clause-refused c = λ bad begun verdict alike. (
  c.in-Err.fault,
  c.succession_status.ensures,
  refused-in c.args.received.now.signature verdict c.args.core.now.rules.policy.bytes c.args.next.now.rules.policy.bytes (stored_in c.args.core.now)
      (succession_in c.args.succession.now) c.args.received.now.entry.now alike c.in-Err.fault c.stored.result.now c.succession-named.result
      c.stored.ensures c.succession-named.ensures c.in-Err.ensures.err,
)

pub returns-clause-client : goal.returns-clause-client
returns-clause-client c = λ good auditors.
    subst (λ (stored : List StoredEntry). IsClient sha256 auditors [] stored (map (λ auditor. 0) auditors)) (sym c.begin.ensures.stored) (next-client sha256 auditors _)
