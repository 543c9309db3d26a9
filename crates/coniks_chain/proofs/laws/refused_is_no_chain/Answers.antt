use Rattle.coniks_chain.proofs.ChainLemmas.{refused-no_chain}
use Rattle.coniks_chain.proofs.laws.refused_is_no_chain.Goals as goal

pub returns : goal.returns
returns c hash verdict start entries place fault refused = refused-no_chain hash verdict start entries place fault refused
