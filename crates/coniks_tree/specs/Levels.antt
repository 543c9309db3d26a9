-- Parts that are grown level by level.
use Rattle.std.specs.Prelude.{◌≡◌, ◌<◌, ◌≤◌, ◌+◌, ◌*◌, ◌-◌, ℕ, List, [], ◌∷◌, ◌++◌, length, slice_get, Bool, cond, false, true, Option, Some, None}
use Rattle.coniks_proof.specs.Changes.{overwritten, AreApart, AreInOrder}
use Rattle.coniks_proof.specs.Hashing.{Hashing}
use Rattle.coniks_tree.specs.Table.{Extends, Numbered, Table}
use Rattle.coniks_tree.specs.Counts.{new_nodes}
use Rattle.coniks_tree.specs.Parts.{Stands, Fits, KeepsNone, Placed, AllPlaced, node_count, is_made, entries_in}
use Rattle.coniks_tree.specs.Joins.{IsJoined}
use Rattle.coniks_tree.specs.declared.table.Node.{Node}
use Rattle.coniks_tree.specs.declared.table.Node.TheVariants.{Empty, Leaf, Inner}
use Rattle.coniks_tree.specs.declared.table.Record.{Record}
use Rattle.coniks_tree.specs.declared.part.Change.{Change}
use Rattle.coniks_tree.specs.declared.part.Part.{Part, Nothing, Entry, Kept, Made'}
use Rattle.coniks_tree.specs.declared.joining.Pair.{Pair}
use Rattle.coniks_tree.specs.declared.levels.Growing.{Growing}
use Rattle.coniks_tree.specs.declared.levels.Opened.{Opened}

-- the part is to be opened at this level, for some changes
pub record IsOpen (n level : ℕ) (g : Growing) : Type 0 where
  pub long : length g.prefix ≡ level
  pub short : level < 256
  pub some : 0 < length g.changes.now
  pub fits : Fits n (length g.prefix) g.part

-- each of the parts is
abbrev pub AllOpen : ℕ → ℕ → List Growing → Type 0
AllOpen n level [] = Unit {0}
AllOpen n level (g ∷ gs) = IsOpen n level g × AllOpen n level gs

-- whether there is a node, and it is an interior one
abbrev pub is_interior : Option Node → Bool
is_interior None = false
is_interior (Some (Empty hash)) = false
is_interior (Some (Leaf place hash)) = false
is_interior (Some (Inner left right hash)) = true

-- how many of the two nodes below a node are interior ones
abbrev pub interior_of : List Node → Option Node → ℕ
interior_of nodes None = 0
interior_of nodes (Some (Empty hash)) = 0
interior_of nodes (Some (Leaf place hash)) = 0
interior_of nodes (Some (Inner left right hash)) = cond
    (is_interior (slice_get nodes left)) 1 0 + cond (is_interior (slice_get nodes right)) 1 0

-- how many of the nodes below a part are interior ones, if it is a node of the tree
abbrev pub interior_below : List Node → Part → ℕ
interior_below nodes Nothing = 0
interior_below nodes (Entry change) = 0
interior_below nodes (Kept root) = interior_of nodes (slice_get nodes root.0)
interior_below nodes (Made' p hash lh rh count left right) = 0

-- how many of those below parts that grow
abbrev pub all_interior_below : List Node → List Growing → ℕ
all_interior_below nodes [] = 0
all_interior_below nodes (g ∷ gs) = interior_below nodes g.part + all_interior_below nodes gs

-- a side that is done, and else the first of the parts from below
abbrev pub side_from : Option Part → List Part → Part
side_from (Some part) below = part
side_from None [] = Nothing
side_from None (part ∷ below) = part

-- the parts from below that a side leaves
abbrev pub left_by : Option Part → List Part → List Part
left_by (Some part) below = below
left_by None [] = []
left_by None (part ∷ below) = below

-- the opened parts with all their sides; sides that are not done are taken from below in order
abbrev pub filled : List Opened → List Part → List Pair
filled [] below = []
filled (o ∷ os) below =
    record { prefix = o.prefix; left = side_from o.left below; right = side_from o.right (left_by o.left below) } ∷
    filled os (left_by o.right (left_by o.left below))

module _ (by : Hashing) (t : Table) where
  -- the part of a prefix, overwritten by changes
  pub record IsGrown (prefix : List Bool) (part : Part) (changes : List Change) (grown : Part) : Type 0 where
    pub fits : Fits (length t.nodes) (length prefix) grown
    pub placed : (all : List Record) → Extends t.records all → Placed all part → AllPlaced all changes → Placed all grown
    pub count : is_made part ≡ false → node_count grown ≤ 1 + 2 * ((256 - length prefix) * length changes)
    pub new : is_made part ≡ false → 0 < length prefix + length changes → (entries : List Numbered)
        → AreInOrder (length prefix) (entries_in changes)
        → AreApart (length prefix) (overwritten entries (entries_in changes))
        → Stands by t part prefix entries
        → node_count grown ≡ new_nodes (length prefix) entries (entries_in changes)
    pub keeps : KeepsNone part → KeepsNone grown
    pub stands : (entries : List Numbered)
        → AreInOrder (length prefix) (entries_in changes)
        → AreApart (length prefix) (overwritten entries (entries_in changes))
        → Stands by t part prefix entries
        → Stands by t grown prefix (overwritten entries (entries_in changes))

  -- the parts are, in order, those that grow
  abbrev pub AllGrown : List Growing → List Part → Type 0
  AllGrown [] [] = Unit {0}
  AllGrown [] (part ∷ parts) = ⊥
  AllGrown (g ∷ gs) [] = ⊥
  AllGrown (g ∷ gs) (part ∷ parts) = IsGrown g.prefix g.part g.changes.now part × AllGrown gs parts

  -- two parts whose join is the part that grows
  pub record IsDivided (prefix : List Bool) (part : Part) (changes : List Change) (left right : Part) : Type 0 where
    pub short : length prefix < 256
    pub left_fits : Fits (length t.nodes) (length prefix + 1) left
    pub right_fits : Fits (length t.nodes) (length prefix + 1) right
    pub joined : (whole : Part) → IsJoined by t prefix left right whole → IsGrown prefix part changes whole

  -- the pairs are, in order, those of the parts that grow
  abbrev pub AllDivided : List Growing → List Pair → Type 0
  AllDivided [] [] = Unit {0}
  AllDivided [] (pair ∷ pairs) = ⊥
  AllDivided (g ∷ gs) [] = ⊥
  AllDivided (g ∷ gs) (pair ∷ pairs) = (g.prefix ≡ pair.prefix)
      × IsDivided g.prefix g.part g.changes.now pair.left pair.right × AllDivided gs pairs

  -- the side is the part overwritten by the changes, or what the one that is left to grow below becomes
  abbrev pub SideGrows : List Bool → Part → List Change → Option Part → List Growing → Type 0
  SideGrows prefix part changes side next = (below rest : List Part) → AllGrown next below
      → IsGrown prefix part changes (side_from side (below ++ rest)) × (left_by side (below ++ rest) ≡ rest)

  -- the two sides of a part that grows, with those that are left to grow below
  abbrev pub Divides : List Bool → Part → List Change → Option Part → Option Part → List Growing → Type 0
  Divides prefix part changes left right next = (below rest : List Part) → AllGrown next below
      → IsDivided prefix part changes (side_from left (below ++ rest)) (side_from right (left_by left (below ++ rest)))
      × (left_by right (left_by left (below ++ rest)) ≡ rest)

  -- all that grow, opened, with those that are left to grow below
  abbrev pub AllDivide : List Growing → List Opened → List Growing → Type 0
  AllDivide gs opened next = (below : List Part) → AllGrown next below → AllDivided gs (filled opened below)
