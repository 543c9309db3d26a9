use Rattle.std.proofs.Common.{◌≡◌, ◌++◌, List, length}
use Rattle.coniks_tree.specs.Parts.{AllPlaced}
use Rattle.coniks_tree.specs.declared.table.Record.{Record}
use Rattle.coniks_base_tests.proofs.records.changes_to.Given as goal

abbrev pub invariant-loop-position : goal.invariant-loop-position
invariant-loop-position l = (old : List Record) → length old ≡ l.first → AllPlaced (old ++ l.records) l.changes.items
