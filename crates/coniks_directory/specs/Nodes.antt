-- How many nodes an epoch adds to the tree.
use Rattle.std.specs.Prelude.{ℕ, List, [], ◌∷◌, map, Option, Some, None}
use Rattle.coniks_proof.specs.Batches.{Operation, after, bound_by}
use Rattle.coniks_proof.specs.Octets.{Octets}
use Rattle.coniks_proof.specs.Registry.{Registered, Registry}
use Rattle.coniks_tree.specs.Counts.{new_nodes}
use Rattle.coniks_tree.specs.Table.{Numbered}
use Rattle.coniks_directory.specs.Batches.{most_nodes}
use Rattle.coniks_directory.specs.History.{Shown, latest_registry}

-- a name's index, in an entry; no count depends on the entry's commitment or record
abbrev pub index_entry : (Octets → Octets) → Registered → Numbered
index_entry index_of b = record { index = index_of b.name; commitment = []; behind = 0 }

abbrev pub index_entries : (Octets → Octets) → Registry → List Numbered
index_entries index_of registry = map (index_entry index_of) registry

-- the number of nodes that the epoch of a batch adds after this history: those of the whole map if every node is hashed again, else
-- those that the batch's operations change; without operations the first epoch adds one and a later one none
abbrev pub epoch_nodes : (Octets → Octets) → List Shown → Option Octets → List Operation → ℕ
epoch_nodes index_of history (Some nonce) ops = new_nodes 0 [] (index_entries index_of (after (latest_registry history) ops))
epoch_nodes index_of history None [] = most_nodes history 0
epoch_nodes index_of history None (op ∷ ops) = new_nodes 0
    (index_entries index_of (latest_registry history)) (index_entries index_of (map bound_by (op ∷ ops)))
