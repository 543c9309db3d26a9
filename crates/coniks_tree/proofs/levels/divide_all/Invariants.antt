use Rattle.std.proofs.Common.{◌++◌, ◌+◌, List, length}
use Rattle.coniks_proof.specs.Hashing.{Hashing}
use Rattle.coniks_tree.specs.Trees.{table_of}
use Rattle.coniks_tree.specs.Levels.{AllDivide, AllOpen}
use Rattle.coniks_tree.specs.declared.levels.Growing.{Growing}
use Rattle.coniks_tree.specs.declared.levels.Opened.{Opened}
use Rattle.coniks_tree.proofs.levels.divide_all.Given as goal

abbrev pub invariant-loop-one : goal.invariant-loop-one
invariant-loop-one l = record {
  open_before : AllOpen (length l.tree.nodes) l.fn.level l.growing.items;
  open_below : AllOpen (length l.tree.nodes) (l.fn.level + 1) l.next.items;
  so_far : (by : Hashing) (opened : List Opened) (next : List Growing) → AllDivide by (table_of l.tree) l.growing.items opened next
      → AllDivide by (table_of l.tree) l.initial.growing.items (l.opened.items ++ opened) (l.next.items ++ next);
}

abbrev pub decreases-loop-one : goal.decreases-loop-one
decreases-loop-one l = length l.growing.items
