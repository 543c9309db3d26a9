use Rattle.coniks_chain.proofs.ChainLemmas.{good_same_verdict}
use Rattle.coniks_chain.proofs.laws.same_verdict_same_chain.Goals as goal

pub returns : goal.returns
returns c hash verdict other same entries good = good_same_verdict hash verdict other same entries good
