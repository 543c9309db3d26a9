use Rattle.std.proofs.Common.{◌≡◌, ◌++◌, List, length}
use Rattle.coniks_tree.specs.Entries.{AreStored, entries_at}
use Rattle.coniks_tree.specs.Parts.{AllPlaced, entries_in}
use Rattle.coniks_tree.specs.Table.{Extends}
use Rattle.coniks_tree.specs.declared.table.Record.{Record}
use Rattle.coniks_tree.proofs.entries.changes_at.Given as goal

abbrev pub invariant-loop-rest : goal.invariant-loop-rest
invariant-loop-rest l = record {
  stored : AreStored (length l.tree.records) l.rest;
  placed : (all : List Record) → Extends l.tree.records all → AllPlaced all l.changes.items;
  so_far : entries_in l.changes.items ++ entries_at l.tree.records l.rest ≡ entries_at l.tree.records l.places;
}

abbrev pub decreases-loop-rest : goal.decreases-loop-rest
decreases-loop-rest l = length l.rest
