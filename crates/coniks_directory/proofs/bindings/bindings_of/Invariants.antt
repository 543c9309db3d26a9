use Rattle.std.proofs.Common.{◌≡◌, ◌++◌, length, map}
use Rattle.coniks_tree.specs.Parts.{AllPlaced, entries_in}
use Rattle.coniks_directory.specs.Bindings.{binding_at, indexed_binding}
use Rattle.coniks_directory.proofs.bindings.bindings_of.Given as goal

abbrev pub invariant-loop-rest : goal.invariant-loop-rest
invariant-loop-rest l = record {
  placed : AllPlaced l.tree.records l.rest;
  so_far : map indexed_binding l.bindings.items ++ map (binding_at l.tree.records) (entries_in l.rest)
      ≡ map (binding_at l.tree.records) (entries_in l.changes);
}

abbrev pub decreases-loop-rest : goal.decreases-loop-rest
decreases-loop-rest l = length l.rest
