-- Nodes as the table has them.
use Rattle.std.specs.Prelude.{ℕ, ◌+◌, ◌*◌, ◌/◌, ◌%◌, ◌^◌, max}
use Rattle.coniks_proof.specs.declared.values.Digest.{Digest}
use Rattle.coniks_tree.specs.declared.packed.Kind.{Kind}
use Rattle.coniks_tree.specs.declared.packed.Kind.TheVariants as kind
use Rattle.coniks_tree.specs.declared.table.Node.{Node}
use Rattle.coniks_tree.specs.declared.table.Node.TheVariants.{Empty, Leaf, Inner}

-- the node of this kind, whose numbers are in 64 low bits and 32 high ones: the left child's in the lowest 48
abbrev pub node_of : Kind → ℕ → ℕ → Digest → Node
node_of kind.Empty low high hash = Empty hash
node_of kind.Leaf low high hash = Leaf (record { 0 = low }) hash
node_of kind.Inner low high hash = Inner (low % 2 ^ 48) (low / 2 ^ 48 + high * 2 ^ 16) hash

-- the greater number of a node's children, 0 if it has none
abbrev pub greatest_child : Node → ℕ
greatest_child (Empty hash) = 0
greatest_child (Leaf place hash) = 0
greatest_child (Inner left right hash) = max left right
