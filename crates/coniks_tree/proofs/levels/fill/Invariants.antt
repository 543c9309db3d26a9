use Rattle.std.proofs.Common.{◌≡◌, ◌++◌, length}
use Rattle.coniks_tree.specs.Levels.{filled}
use Rattle.coniks_tree.proofs.levels.fill.Given as goal

abbrev pub invariant-loop-one : goal.invariant-loop-one
invariant-loop-one l = l.pairs.items ++ filled l.opened.items l.below.items ≡ filled l.initial.opened.items l.initial.below.items

abbrev pub decreases-loop-one : goal.decreases-loop-one
decreases-loop-one l = length l.opened.items
