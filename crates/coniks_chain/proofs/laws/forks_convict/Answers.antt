use Rattle.coniks_chain.proofs.EvidenceLemmas.{forked}
use Rattle.coniks_chain.proofs.laws.forks_convict.Goals as goal

pub returns : goal.returns
returns c hash verdict other xs ys good_x good_y not_x not_y = forked hash verdict other xs ys good_x good_y not_x not_y
