use Rattle.std.proofs.Common.{◌≤◌, length}
use Rattle.coniks_quorum.proofs.StateWalkLemmas.{AreCopied, Leaves}
use Rattle.coniks_quorum.proofs.states.state.Watched.copy_changes.Given as goal

abbrev pub invariant-loop-change : goal.invariant-loop-change
invariant-loop-change l = record { leaves : Leaves l.self.changes.now l.count l.rest; within : l.count ≤ length l.out; copied : AreCopied l.self.changes.now l.count l.out }

abbrev pub decreases-loop-change : goal.decreases-loop-change
decreases-loop-change l = length l.rest
