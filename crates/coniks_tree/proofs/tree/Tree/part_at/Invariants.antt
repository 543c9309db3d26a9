use Rattle.std.proofs.Common.{◌≡◌, ◌≤◌, length, List, [], take, false}
use Rattle.coniks_proof.specs.Entries.{under}
use Rattle.coniks_proof.specs.Hashing.{Hashing}
use Rattle.coniks_tree.specs.Table.{Numbered, Shows, Extends}
use Rattle.coniks_tree.specs.Trees.{table_of}
use Rattle.coniks_tree.specs.declared.table.Record.{Record}
use Rattle.coniks_tree.specs.Parts.{Stands, Fits, Placed, is_made, node_count}
use Rattle.coniks_tree.proofs.tree.Tree.part_at.Given as goal

abbrev pub invariant-loop-level : goal.invariant-loop-level
invariant-loop-level l = record {
  within : l.level ≤ length l.prefix;
  fits : Fits (length l.self.nodes) l.level l.part;
  unmade : is_made l.part ≡ false;
  whole : l.level ≡ 0 → node_count l.part ≡ 0;
  placed : (all : List Record) → Extends l.self.records all → Placed all l.part;
  stands : (by : Hashing) (entries : List Numbered) → Shows by (table_of l.self) l.fn.root.0 [] entries
      → Stands by (table_of l.self) l.part (take l.level l.prefix) (under (take l.level l.prefix) entries);
}
