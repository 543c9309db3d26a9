-- Who has an index.
use Rattle.std.specs.Prelude.{◌≡◌, ◌<◌, [], length, true, IfSome, Option, Some, None}
use Rattle.std.specs.Borrow.{Bor}
use Rattle.coniks_proof.specs.Octets.{Octets}
use Rattle.coniks_proof.specs.Registry.{Registered, Registry, has_name, IsFree}
use Rattle.coniks_tree.specs.Table.{Table, table}
use Rattle.coniks_tree.specs.Parts.{node_count}
use Rattle.coniks_tree.specs.declared.table.Record.{Record}
use Rattle.coniks_tree.specs.declared.table.Root.{Root}
use Rattle.coniks_threads.specs.Grown.{unchanged}
use Rattle.coniks_directory.specs.Batches.{most_nodes}
use Rattle.coniks_directory.specs.History.{latest_nonce, latest_registry}
use Rattle.coniks_directory.specs.State.{ShowsRegistry, State, history_of, registered_of}

-- the one name of the registry that has the index
pub record IsBoundAt (index_of : Octets → Octets) (registry : Registry) (index : Octets) (b : Registered) : Type 0 where
  pub at : index_of b.name ≡ index
  pub has : has_name registry b.name ≡ true
  pub only : (name : Octets) → index_of name ≡ index → has_name registry name ≡ true → name ≡ b.name

-- no registered name has the index, or exactly the name of this record
abbrev pub HolderIs : (Octets → Octets) → Registry → Octets → Option (Bor Record) → Type 0
HolderIs index_of registry index None = IsFree index_of registry index
HolderIs index_of registry index (Some r) = IsBoundAt index_of registry index (registered_of r.now)

-- the root shows the registry, which is empty if there is no root
abbrev pub ShowsLatest : (Octets → Octets) → (Octets → Octets) → Octets → Table → Option Root → Registry → Type 0
ShowsLatest hash index_of nonce t (Some root) registry = ShowsRegistry hash index_of nonce t root.0 registry
ShowsLatest hash index_of nonce t None registry = registry ≡ []

-- the root is that of the latest epoch, if there is one: it is a node's, it
-- shows the latest registry, and an epoch without operations keeps it
pub record IsLatestRoot (hash index_of : Octets → Octets) (s : State) (root : Option Root) : Type 0 where
  pub known : IfSome root (λ r. r.0 < length s.nodes)
  pub shows : (nonce : Octets) → nonce ≡ latest_nonce s.nonce (history_of s)
      → ShowsLatest hash index_of nonce (table s.nodes s.records) root (latest_registry (history_of s))
  pub counted : node_count (unchanged root) ≡ most_nodes (history_of s) 0
