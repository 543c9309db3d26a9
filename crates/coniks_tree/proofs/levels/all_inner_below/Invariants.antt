use Rattle.std.proofs.Common.{◌≡◌, ◌++◌, ◌+◌, ◌-◌, ◌≤◌, ◌^◌, min}
use Rattle.coniks_tree.specs.Levels.{all_interior_below}
use Rattle.coniks_tree.proofs.levels.all_inner_below.Given as goal

-- the count so far, and the count of the rest
abbrev pub invariant-loop-one : goal.invariant-loop-one
invariant-loop-one l = record {
  small : l.count ≤ 2 ^ 64 - 1;
  so_far : min (l.count + all_interior_below l.nodes (l.one-iterator.head.now ++ l.one-iterator.wrapped.now)) (2 ^ 64 - 1) ≡ min (all_interior_below l.nodes l.growing.items) (2 ^ 64 - 1);
}
