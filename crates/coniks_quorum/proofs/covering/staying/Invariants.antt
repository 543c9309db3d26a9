use Rattle.coniks_quorum.specs.Covering.{AreDroppable}
use Rattle.coniks_quorum.proofs.covering.staying.Given as goal

abbrev pub invariant-loop-place : goal.invariant-loop-place
invariant-loop-place l = AreDroppable l.present l.promise l.stored l.confirmed l.place
