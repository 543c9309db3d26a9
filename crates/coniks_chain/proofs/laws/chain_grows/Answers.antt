use Rattle.coniks_chain.proofs.ChainLemmas.{good_push}
use Rattle.coniks_chain.proofs.laws.chain_grows.Goals as goal

pub returns : goal.returns
returns c hash verdict entries entry good follows = good_push hash verdict entries entry good follows
