use Rattle.coniks_quorum.proofs.StateLawLemmas.{back_law, parts_law}
use Rattle.coniks_quorum.proofs.StateLemmas.{state_same}
use Rattle.coniks_quorum.proofs.states.laws.states.Goals as goal

pub returns-clause-same : goal.returns-clause-same
returns-clause-same c = state_same

pub returns-clause-back : goal.returns-clause-back
returns-clause-back c = back_law

pub returns-clause-parts : goal.returns-clause-parts
returns-clause-parts c = parts_law
