-- What a directory holds, what it shows of it, and what is true of it.
use Rattle.std.specs.Prelude.{◌≡◌, ◌==◌, ◌<◌, ◌≤◌, ℕ, List, [], ◌∷◌, length, map, take, slice_get, Option, Some, None}
use Rattle.std.specs.List.{find}
use Rattle.coniks_proof.specs.Entries.{IsIn, backed_by}
use Rattle.coniks_proof.specs.Hashing.{hashing}
use Rattle.coniks_proof.specs.Maps.{IsMap, SameEntries}
use Rattle.coniks_proof.specs.Octets.{Octets}
use Rattle.coniks_proof.specs.Registry.{Registered, Registry, overlaid, entries_of, AreWithin}
use Rattle.coniks_tree.specs.Table.{Numbered, Shows, entry_of_record, registered_at, registered_by, Table, table}
use Rattle.coniks_tree.specs.declared.table.Node.{Node}
use Rattle.coniks_tree.specs.declared.table.Record.{Record}
use Rattle.coniks_chain.specs.Chain.{before_at, epoch_before, link_before}
use Rattle.coniks_chain.specs.declared.auditor.AuditorState.{AuditorState}
use Rattle.coniks_chain.specs.declared.entry.Entry.{Entry}
use Rattle.coniks_directory.specs.History.{Shown, AreRising, AreUnder, numbers_of, root_at, shown_at}
use Rattle.coniks_directory.specs.Chain.{IsChainOf}
use Rattle.coniks_directory.specs.declared.epochs.Epoch.{Epoch}
use Rattle.coniks_directory.specs.declared.state.DirectoryState.{DirectoryState}

-- what a directory holds; the nonce is that of `open` or of the entry of `restore`, and `before` is what the chain's first entry
-- is compared with: nothing after `open`, and what the entry of `restore` says of the one before it
pub record State : Type 0 where
  pub nonce : Octets
  pub policy : Octets
  pub before : Option AuditorState
  pub nodes : List Node
  pub records : List Record
  pub epochs : List Epoch
  pub chain : List Entry

-- a directory as contracts see it: its hash, its index source and its state
pub record View (H X : Type 0) : Type 0 where
  pub hash : H
  pub index : X
  pub state : State

-- what is seen of what a directory holds
abbrev pub state_of : DirectoryState → State
state_of h = record {
  nonce = h.nonce.0;
  policy = h.policy;
  before = h.before;
  nodes = h.tree.nodes;
  records = h.tree.records;
  epochs = h.epochs.items;
  chain = h.chain.items;
}

-- the state of a directory that was opened
abbrev pub opened : Octets → Octets → State
opened nonce policy = record { nonce = nonce; policy = policy; before = None; nodes = []; records = []; epochs = []; chain = [] }

-- what a record binds
abbrev pub registered_of : Record → Registered
registered_of r = registered_by (Some r)

-- the registry that the first `count` records leave
unfoldable pub registry_at : List Record → ℕ → Registry
registry_at records count = overlaid [] (map registered_of (take count records))

-- an epoch with its registry
abbrev pub shown_of : List Record → Epoch → Shown
shown_of records e = record { t = e.t; version = e.version; nonce = e.nonce.0; registry = registry_at records e.count }

-- the epochs with their registries
abbrev pub history_of : State → List Shown
history_of s = map (shown_of s.records) s.epochs

-- the record of the entry is there
abbrev pub IsStored : List Record → Numbered → Type 0
IsStored records e = (r : Record) × (slice_get records e.behind ≡ Some r) × (entry_of_record e.behind r ≡ e)

-- the entries, with what their records bind behind them, are those of the registry
pub record Mirrors (hash index_of : Octets → Octets) (records : List Record) (entries : List Numbered) (registry : Registry) : Type 0 where
  pub stored : (e : Numbered) → IsIn e entries → IsStored records e
  pub indices : IsMap entries
  pub names : IsMap (entries_of hash index_of registry)
  pub same : SameEntries (map (backed_by (registered_at records)) entries) (entries_of hash index_of registry)
  pub limits : AreWithin registry

-- a root shows a registry
pub record ShowsRegistry (hash index_of : Octets → Octets) (nonce : Octets) (t : Table) (root : ℕ) (registry : Registry) : Type 0 where
  pub entries : List Numbered
  pub shows : Shows (hashing hash nonce) t root [] entries
  pub mirrors : Mirrors hash index_of t.records entries registry

-- what is true of an epoch: its root shows its registry under its nonce
pub record HoldsEpoch (hash index_of : Octets → Octets) (t : Table) (e : Epoch) : Type 0 where
  pub known : e.root.0 < length t.nodes
  pub counted : e.count ≤ length t.records
  pub registry : ShowsRegistry hash index_of e.nonce.0 t e.root.0 (registry_at t.records e.count)

-- how many records there are after the last epoch
abbrev pub last_count : List Epoch → ℕ
last_count [] = 0
last_count (e ∷ []) = e.count
last_count (e ∷ f ∷ es) = last_count (f ∷ es)

-- what is true of what a directory holds
pub record Whole (hash index_of : Octets → Octets) (s : State) : Type 0 where
  pub stored : (k : ℕ) (e : Epoch) → slice_get s.epochs k ≡ Some e → HoldsEpoch hash index_of (table s.nodes s.records) e
  pub last : last_count s.epochs ≡ length s.records
  pub begun : s.chain ≡ [] → s.before ≡ None
  pub rising : AreRising (epoch_before s.before) (numbers_of (history_of s))
  pub under : AreUnder 1 s.nonce (history_of s)
  pub chain : IsChainOf hash index_of s.policy s.before (history_of s) s.chain

-- the stored link is the one that the next entry contains: that of the last entry, or zeros if there is none
abbrev pub IsLinked : (Octets → Octets) → DirectoryState → Type 0
IsLinked hash stored = stored.link.0 ≡ link_before (before_at hash stored.before stored.chain.items (length stored.chain.items))

-- what is true of a directory: of the state that contracts see, and of the stored link
pub record IsDirectory (hash index_of : Octets → Octets) (stored : DirectoryState) : Type 0 where
  pub whole : Whole hash index_of (state_of stored)
  pub linked : IsLinked hash stored

-- the epoch of exactly this number, with the entry of that number
pub record IsEpochAt (hash index_of : Octets → Octets) (s : State) (t : ℕ) (e : Epoch) (entry : Entry) : Type 0 where
  pub holds : HoldsEpoch hash index_of (table s.nodes s.records) e
  pub shown : shown_at (history_of s) t ≡ Some (shown_of s.records e)
  pub signed : find (λ (f : Entry). f.body.t == t) s.chain ≡ Some entry
  pub root : entry.body.root.0 ≡ root_at hash index_of (shown_of s.records e)
  pub nonce : entry.body.nonce.0 ≡ e.nonce.0

-- the epoch of exactly this number and its entry, or none if there is no such epoch
abbrev pub IsInstalled : (Octets → Octets) → (Octets → Octets) → State → ℕ → Option (Epoch × Entry) → Type 0
IsInstalled hash index_of s t None = shown_at (history_of s) t ≡ None
IsInstalled hash index_of s t (Some it) = IsEpochAt hash index_of s t it.0 it.1
