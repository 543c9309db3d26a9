-- The part and the records of a batch, and the update that they make.
use Rattle.std.specs.Prelude.{◌≡◌, ◌≤◌, ◌+◌, ◌*◌, ℕ, List, [], ◌∷◌, ◌++◌, length, map, Bool, true, false, Option, Some, None}
use Rattle.coniks_proof.specs.Batches.{Operation, after, bound_by}
use Rattle.coniks_proof.specs.Changes.{AreApart, AreInOrder, overwritten}
use Rattle.coniks_proof.specs.Hashing.{Hashing, hashing}
use Rattle.coniks_proof.specs.Maps.{IsMap}
use Rattle.coniks_proof.specs.Octets.{Octets}
use Rattle.coniks_proof.specs.Registry.{Registry}
use Rattle.coniks_tree.specs.Counts.{new_nodes}
use Rattle.coniks_tree.specs.Entries.{Lists}
use Rattle.coniks_tree.specs.Parts.{AllPlaced, Fits, KeepsNone, Placed, Stands, entries_in, node_count}
use Rattle.coniks_tree.specs.Table.{Extends, Numbered, Table}
use Rattle.coniks_tree.specs.declared.part.Change.{Change}
use Rattle.coniks_tree.specs.declared.part.Part.{Part}
use Rattle.coniks_tree.specs.declared.table.Record.{Record}
use Rattle.coniks_tree.specs.declared.table.Root.{Root}
use Rattle.coniks_threads.specs.Grown.{IsOldMap, unchanged}
use Rattle.coniks_directory.specs.Batches.{most_anew, most_nodes, operations}
use Rattle.coniks_directory.specs.History.{latest_registry}
use Rattle.coniks_directory.specs.Nodes.{epoch_nodes, index_entries}
use Rattle.coniks_directory.specs.State.{Mirrors, State, history_of, registered_of}
use Rattle.coniks_directory.specs.SuppliedBatches.{AreOf, indices_in, indices_of}
use Rattle.coniks_directory.specs.Updates.{RotatesTo, IsUpdate, registry_after}
use Rattle.coniks_directory.specs.declared.batch.Op.{Op}
use Rattle.coniks_directory.specs.declared.growth.Growth.{Growth}
use Rattle.coniks_directory.specs.declared.update.Prepared.{Prepared}

-- from a level on entries and changes are in the order of their bits, and no two of the changed map have the same bits
pub record AreAligned (level : ℕ) (entries changes : List Numbered) : Type 0 where
  pub old : AreInOrder level entries
  pub new : AreInOrder level changes
  pub apart : AreApart level (overwritten entries changes)

-- a tree grows by the changes as they are from the root, or anew, by the whole changed map from nothing
pub record IsGrowth (t : Table) (root : Option Root) (anew : Bool) (changes : List Change) (growth : Growth) : Type 0 where
  pub retained : anew ≡ false → (growth.root ≡ root) × (growth.changes.items ≡ changes)
  pub none : anew ≡ true → growth.root ≡ None
  pub all : anew ≡ true → (by : Hashing) (entries : List Numbered)
      → IsOldMap by t root entries
      → IsMap entries → IsMap (entries_in changes) → AreInOrder 0 (entries_in changes)
      → Lists growth.changes.items (overwritten entries (entries_in changes))
  pub placed : (further : List Record) → Extends t.records further → AllPlaced further changes → AllPlaced further growth.changes.items

-- a bound on the nodes of the part: for this number of operations after a root, for none, or for this registry if every node
-- is hashed again, when it keeps no node of the tree
abbrev pub IsSmall : Bool → Option Root → List Operation → Registry → Part → Type 0
IsSmall false root ops registry part = (node_count part ≤ 512 * length ops + 1) × (length ops ≡ 0 → part ≡ unchanged root)
IsSmall true root ops registry part = (node_count part ≤ most_anew registry) × KeepsNone part

-- how many nodes the part takes: of the whole map, where it is made anew, or of
-- what the operations change; without operations it is the old root
abbrev pub IsCounted : Bool → (Octets → Octets) → Option Root → Registry → List Operation → Part → Type 0
IsCounted true index_of root registry ops part = node_count part ≡ new_nodes 0 [] (index_entries index_of (after registry ops))
IsCounted false index_of root registry [] part = part ≡ unchanged root
IsCounted false index_of root registry (op ∷ ops) part = node_count part ≡ new_nodes
    0 (index_entries index_of registry) (index_entries index_of (map bound_by (op ∷ ops)))

-- the part and the new records are those of a batch on a registry, which the root shows, over the nodes and the records that there were
pub record IsBuilt (hash index_of : Octets → Octets) (nonce : Octets) (t : Table)
    (root : Option Root) (registry : Registry) (ops : List Operation) (anew : Bool) (part : Part) (new : List Record) : Type 0 where
  pub binds : map registered_of new ≡ map bound_by ops
  pub fits : Fits (length t.nodes) 0 part
  pub small : IsSmall anew root ops (after registry ops) part
  pub counted : IsCounted anew index_of root registry ops part
  pub stored : AreOf index_of (indices_in new)
  pub placed : Placed (t.records ++ new) part
  pub entries : List Numbered
  pub stands : Stands (hashing hash nonce) t part [] entries
  pub mirrors : Mirrors hash index_of (t.records ++ new) entries (after registry ops)

-- a bound on the nodes that the update of a batch adds; with a new nonce it keeps no node of the tree
abbrev pub AddsFew : State → Option Octets → List Op → Prepared → Type 0
AddsFew s None ops p = (p.new_nodes ≤ most_nodes (history_of s) (length ops)) × (length ops ≡ 0 → p.new_nodes ≡ most_nodes (history_of s) 0)
AddsFew s (Some nonce) ops p = (p.new_nodes ≤ most_anew (after (latest_registry (history_of s)) (operations ops))) × KeepsNone p.part

-- the update is that of a batch, with a new nonce or without, on the directory in this state
pub record IsUpdateBy (hash index_of : Octets → Octets) (s : State)
    (new_nonce : Option Octets) (ops : List Op) (p : Prepared) : Type 0 where
  pub update : IsUpdate hash index_of s p
  pub rotates : RotatesTo s new_nonce p
  pub registry : registry_after s p ≡ after (latest_registry (history_of s)) (operations ops)
  pub binds : map registered_of p.records.items ≡ map bound_by (operations ops)
  pub stored : AreOf index_of (indices_of p)
  pub few : AddsFew s new_nonce ops p
  pub nodes : p.new_nodes ≡ epoch_nodes index_of (history_of s) new_nonce (operations ops)
