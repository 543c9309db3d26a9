-- What the nodes of a table show.
use Rattle.std.specs.Prelude.{◌≡◌, ◌<◌, ◌≤◌, ℕ, List, [], ◌∷◌, length, Bool, true, false, Option, Some, None, slice_get}
use Rattle.coniks_proof.specs.Bits.{child}
use Rattle.coniks_proof.specs.Entries.{Entry, half}
use Rattle.coniks_proof.specs.Hashing.{Hashing}
use Rattle.coniks_proof.specs.Registry.{Registered}
use Rattle.coniks_proof.specs.Tree.{node}
use Rattle.coniks_proof.specs.declared.values.Digest.{Digest}
use Rattle.coniks_tree.specs.declared.table.Node.{Node}
use Rattle.coniks_tree.specs.declared.table.Node.TheVariants.{Empty, Leaf, Inner}
use Rattle.coniks_tree.specs.declared.table.Record.{Record}
use Rattle.coniks_tree.specs.declared.table.RecordNo.{RecordNo}

-- an entry with the number of its record
abbrev pub Numbered : Type 0
Numbered = Entry ℕ

-- a node's hash
abbrev pub hash_of_node : Node → Digest
hash_of_node (Empty d) = d
hash_of_node (Leaf place d) = d
hash_of_node (Inner l r d) = d

-- the entry of the record of this number
abbrev pub entry_of_record : ℕ → Record → Numbered
entry_of_record n r = record { index = r.index.0; commitment = r.commitment.0; behind = n }

-- what a record binds; an empty binding if there is no record
abbrev pub registered_by : Option Record → Registered
registered_by (Some r) = record { name = r.binding.name; key = r.binding.key; opening = r.opening.0 }
registered_by None = record { name = []; key = []; opening = [] }

-- what the record of a number binds
abbrev pub registered_at : List Record → ℕ → Registered
registered_at records n = registered_by (slice_get records n)

-- the nodes and the records of a tree
pub record Table : Type 0 where
  pub nodes : List Node
  pub records : List Record

-- the table of these nodes and records
abbrev pub table : List Node → List Record → Table
table nodes records = record { nodes = nodes; records = records }

-- the node with this number is that of the prefix, with these entries under it
pub data Shows (by : Hashing) (t : Table) : ℕ → List Bool → List Numbered → Type 0 where
  shows_empty : (n : ℕ) (p : List Bool) (es : List Numbered) (d : Digest)
      → slice_get t.nodes n ≡ Some (Empty d) → es ≡ [] → d.0 ≡ node by p es → Shows by t n p es
  shows_leaf : (n : ℕ) (p : List Bool) (es : List Numbered) (d : Digest) (place : RecordNo) (r : Record)
      → slice_get t.nodes n ≡ Some (Leaf place d) → slice_get t.records place.0 ≡ Some r
      → es ≡ entry_of_record place.0 r ∷ [] → d.0 ≡ node by p es → Shows by t n p es
  shows_inner : (n : ℕ) (p : List Bool) (es : List Numbered) (d : Digest) (l r : ℕ)
      → slice_get t.nodes n ≡ Some (Inner l r d) → length p < 256 → 2 ≤ length es → d.0 ≡ node by p es
      → Shows by t l (child p false) (half false (length p) es)
      → Shows by t r (child p true) (half true (length p) es)
      → Shows by t n p es

-- the new list begins with the old one
abbrev pub Extends : {T : Type 0} → List T → List T → Type 0
Extends {T} old new = (k : ℕ) (v : T) → slice_get old k ≡ Some v → slice_get new k ≡ Some v

-- the nodes below a node have smaller numbers, and each leaf's record is there
pub record IsLinked (t : Table) : Type 0 where
  pub lower : (n : ℕ) (l r : ℕ) (d : Digest) → slice_get t.nodes n ≡ Some (Inner l r d) → (l < n) × (r < n)
  pub stored : (n : ℕ) (place : RecordNo) (d : Digest) → slice_get t.nodes n ≡ Some (Leaf place d) → place.0 < length t.records

-- the node may be the last of a table of `n` nodes
abbrev pub NodeFits : ℕ → List Record → Node → Type 0
NodeFits n records (Empty d) = Unit {0}
NodeFits n records (Leaf place d) = place.0 < length records
NodeFits n records (Inner l r d) = (l < n) × (r < n)
