use Rattle.std.proofs.Common.{take}
use Rattle.std.specs.List.{All}
use Rattle.coniks_quorum.specs.StateForms.{IsSizedChange}
use Rattle.coniks_quorum.specs.Saved.{saved_change}
use Rattle.coniks_quorum.proofs.states.sizes.are_sized_changes.Given as goal

abbrev pub invariant-loop-change : goal.invariant-loop-change
invariant-loop-change l = All (λ change. IsSizedChange (saved_change change)) (take l.change-index l.changes)
