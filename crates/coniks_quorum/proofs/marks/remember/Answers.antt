use Rattle.std.proofs.Common.{subst}
use Rattle.coniks_client.specs.Comparing.{Compares}
use Rattle.coniks_client.specs.declared.comparing.Comparison.{Comparison}
use Rattle.coniks_quorum.proofs.QuorumLemmas.{raised}
use Rattle.coniks_quorum.proofs.marks.remember.Goals as goal

pub returns-in-Equal-clause-right : goal.returns-in-Equal-clause-right
returns-in-Equal-clause-right c = λ hash stored compares auditors dropped cosigned are.
    raised hash auditors dropped stored c.args.marks.now c.raise.new.marks c.args.place c.args.head.now c.in-Equal.field-0
    c.requires c.raise.ensures (subst (λ (found : Comparison). Compares hash stored c.args.head.now found) c.in-Equal.is compares) cosigned are
