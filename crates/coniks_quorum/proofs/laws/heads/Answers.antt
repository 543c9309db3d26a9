use Rattle.coniks_quorum.proofs.HeadsLemmas.{cut, heads}
use Rattle.coniks_quorum.proofs.laws.heads.Goals as goal

pub returns : goal.returns
returns c = record { marks = heads; cut = cut }
