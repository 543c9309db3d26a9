use Rattle.coniks_quorum.proofs.QuorumLemmas.{grow, left}
use Rattle.coniks_quorum.proofs.laws.marks.Goals as goal

pub returns : goal.returns
returns c = record { grow = grow; left = left }
