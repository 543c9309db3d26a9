use Rattle.coniks_chain.proofs.EvidenceLemmas.{one_chain}
use Rattle.coniks_chain.proofs.laws.one_chain_never_convicts.Goals as goal

pub returns : goal.returns
returns c hash verdict chain policy a b good one is_a is_b kind = one_chain hash verdict chain good policy a b one is_a is_b kind
