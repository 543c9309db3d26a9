use Rattle.std.proofs.Common.{◌<◌, ◌-◌, length, List, [], map}
use Rattle.coniks_proof.specs.Hashing.{Hashing}
use Rattle.coniks_tree.specs.Table.{Numbered, Shows}
use Rattle.coniks_tree.specs.Trees.{table_of}
use Rattle.coniks_tree.proofs.PathLemmas.{OnWay}
use Rattle.coniks_tree.proofs.path.path_from.Given as goal

abbrev pub invariant-loop-near : goal.invariant-loop-near
invariant-loop-near l = record {
  known : l.number < length l.tree.nodes;
  way : (by : Hashing) (entries : List Numbered) → Shows by (table_of l.tree) l.fn.root.0 [] entries
      → OnWay by (table_of l.tree) l.index.0 entries (map (λ d. d.0) l.siblings.items) l.number l.level;
}

abbrev pub decreases-loop-near : goal.decreases-loop-near
decreases-loop-near l = 256 - l.level
