use Rattle.std.proofs.Common.{take}
use Rattle.std.specs.List.{All}
use Rattle.coniks_quorum.specs.StateForms.{IsStored}
use Rattle.coniks_quorum.proofs.states.sizes.known.Given as goal

abbrev pub invariant-loop-mine : goal.invariant-loop-mine
invariant-loop-mine l = All IsStored (take l.mine-index l.stored)
