-- What contracts see of a tree.
use Rattle.std.specs.Prelude.{ℕ, List}
use Rattle.coniks_tree.specs.Table.{Table, table}
use Rattle.coniks_tree.specs.declared.table.Node.{Node}
use Rattle.coniks_tree.specs.declared.table.Record.{Record}

-- the nodes and records of a tree, and how many of each there is room for
pub record TreeView : Type 0 where
  pub nodes : List Node
  pub records : List Record
  pub node_room : ℕ
  pub record_room : ℕ

-- the nodes and the records of the tree
abbrev pub table_of : TreeView → Table
table_of tree = table tree.nodes tree.records
