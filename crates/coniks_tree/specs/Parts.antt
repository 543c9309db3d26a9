-- What a part represents, and how many nodes it needs.
use Rattle.std.specs.Prelude.{◌≡◌, ◌<◌, ◌≤◌, ◌+◌, ◌^◌, ◌-◌, ℕ, suc, List, [], ◌∷◌, length, Bool, true, false, Some, slice_get, min, map}
use Rattle.coniks_proof.specs.Bits.{child}
use Rattle.coniks_proof.specs.Entries.{half}
use Rattle.coniks_proof.specs.Hashing.{Hashing}
use Rattle.coniks_proof.specs.Tree.{node}
use Rattle.coniks_proof.specs.declared.values.Digest.{Digest}
use Rattle.coniks_tree.specs.Table.{Numbered, Shows, entry_of_record, Table}
use Rattle.coniks_tree.specs.declared.table.Record.{Record}
use Rattle.coniks_tree.specs.declared.part.Change.{Change}
use Rattle.coniks_tree.specs.declared.part.Part.{Part, Nothing, Entry, Kept, Made'}

-- the entry that a change puts into the map
abbrev pub entry_of_change : Change → Numbered
entry_of_change c = record { index = c.index.0; commitment = c.commitment.0; behind = c.place.0 }

-- the entries that the changes put into the map
abbrev pub entries_in : List Change → List Numbered
entries_in changes = map entry_of_change changes

-- how many nodes it takes to attach the part
abbrev pub node_count : Part → ℕ
node_count Nothing = 1
node_count (Entry c) = 1
node_count (Kept root) = 0
node_count (Made' p hash lh rh count left right) = node_count left + node_count right + 1

-- the part keeps nodes among the first `n` only, it is of a prefix of `level` bits, and its counts are right
abbrev pub Fits : ℕ → ℕ → Part → Type 0
Fits n level Nothing = level ≤ 256
Fits n level (Entry c) = level ≤ 256
Fits n level (Kept root) = root.0 < n
Fits n level (Made' p hash lh rh count left right) =
    (level < 256) × (count ≡ min (node_count left + node_count right + 1) (2 ^ 64 - 1)) × Fits n (suc level) left × Fits n (suc level) right

-- one side of a new subtree: its hash is that of its node, and its part represents the entries of that side
pub record IsSide (by : Hashing) (prefix : List Bool) (entries : List Numbered)
    (bit : Bool) (d : Digest) (StandsFor : List Bool → List Numbered → Type 0) : Type 0 where
  pub is_hash : d.0 ≡ node by (child prefix bit) (half bit (length prefix) entries)
  pub stands : StandsFor (child prefix bit) (half bit (length prefix) entries)

-- a new subtree: two entries or more, with the hash of its node and its two sides
pub record IsSubtree (by : Hashing) (prefix : List Bool)
    (entries : List Numbered) (d lh rh : Digest) (Left Right : List Bool → List Numbered → Type 0) : Type 0 where
  pub many : 2 ≤ length entries
  pub is_hash : d.0 ≡ node by prefix entries
  pub left : IsSide by prefix entries false lh Left
  pub right : IsSide by prefix entries true rh Right

-- the entries under the prefix are those of the part, and its hashes are those of its nodes
abbrev pub Stands : Hashing → Table → Part → List Bool → List Numbered → Type 0
Stands by t Nothing prefix entries = entries ≡ []
Stands by t (Entry c) prefix entries = entries ≡ entry_of_change c ∷ []
Stands by t (Kept root) prefix entries = Shows by t root.0 prefix entries
    × (0 < length prefix → 2 ≤ length entries)
Stands by t (Made' p d lh rh count left right) prefix entries =
    IsSubtree by prefix entries d lh rh (Stands by t left) (Stands by t right)

-- at least how many entries a part below the root has, counted up to two
abbrev pub weight_of : Part → ℕ
weight_of Nothing = 0
weight_of (Entry c) = 1
weight_of (Kept root) = 2
weight_of (Made' p hash lh rh count left right) = 2

-- the part is a new subtree
abbrev pub is_made : Part → Bool
is_made Nothing = false
is_made (Entry c) = false
is_made (Kept root) = false
is_made (Made' p hash lh rh count left right) = true

-- the part keeps no node of the tree
abbrev pub KeepsNone : Part → Type 0
KeepsNone Nothing = Unit {0}
KeepsNone (Entry c) = Unit {0}
KeepsNone (Kept root) = ⊥
KeepsNone (Made' p hash lh rh count left right) = KeepsNone left × KeepsNone right

-- the records of the part's entries are there
abbrev pub Placed : List Record → Part → Type 0
Placed records Nothing = Unit {0}
Placed records (Entry c) = (r : Record) × (slice_get records c.place.0 ≡ Some r) × (entry_of_record c.place.0 r ≡ entry_of_change c)
Placed records (Kept root) = Unit {0}
Placed records (Made' p hash lh rh count left right) = Placed records left × Placed records right

-- the records of the changes are there
abbrev pub AllPlaced : List Record → List Change → Type 0
AllPlaced records [] = Unit {0}
AllPlaced records (c ∷ cs) = Placed records (Entry c) × AllPlaced records cs
