use Rattle.coniks_quorum.proofs.QuorumLemmas.{agree, owner, place, quorum, watcher}
use Rattle.coniks_quorum.proofs.laws.quorum.Goals as goal

pub returns : goal.returns
returns c = record { shares = quorum; place = place; agree = agree; owner = owner; watcher = watcher }
