use Rattle.coniks_quorum.proofs.StateWalkLemmas.{Leaves}
use Rattle.coniks_quorum.proofs.states.state.Watched.change_at.Given as goal

abbrev pub invariant-loop-before : goal.invariant-loop-before
invariant-loop-before l = Leaves l.self.changes.now l._before l.rest
