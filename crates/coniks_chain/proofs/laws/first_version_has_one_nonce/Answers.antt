use Rattle.coniks_chain.proofs.ChainLemmas.{one_nonce}
use Rattle.coniks_chain.proofs.laws.first_version_has_one_nonce.Goals as goal

pub returns : goal.returns
returns c hash verdict entries k first entry good at_first at is_first = one_nonce hash verdict entries k first entry good at_first at is_first
