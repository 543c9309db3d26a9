use Rattle.coniks_c.specs.CoreStates.{AreValid}
use Rattle.coniks_c.proofs.core_state.are_valid.Given as goal

abbrev pub invariant-loop-place : goal.invariant-loop-place
invariant-loop-place l = AreValid l.verdicts l.place
