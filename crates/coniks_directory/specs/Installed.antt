-- The steps of an install.
use Rattle.std.specs.Prelude.{◌≡◌, ◌<◌, ◌≤◌, ◌+◌, ℕ, List, [], ◌∷◌, ◌++◌, length, slice_get, vec_capacity, vec_len, Bool, true, Some}
use Rattle.coniks_proof.specs.Batches.{Operation, after}
use Rattle.coniks_proof.specs.Octets.{Octets}
use Rattle.coniks_proof.specs.Registry.{root_of}
use Rattle.coniks_tree.specs.Parts.{node_count}
use Rattle.coniks_tree.specs.Table.{table}
use Rattle.coniks_chain.specs.Chain.{Continues, before_at}
use Rattle.coniks_chain.specs.Entries.{body_bytes}
use Rattle.coniks_chain.specs.declared.entry.Body.{Body}
use Rattle.coniks_chain.specs.declared.entry.Entry.{Entry}
use Rattle.coniks_directory.specs.Chain.{body_of}
use Rattle.coniks_directory.specs.History.{latest_epoch}
use Rattle.coniks_directory.specs.State.{HoldsEpoch, State, Whole, history_of, last_count}
use Rattle.coniks_directory.specs.Updates.{Grows, IsUpdate, registry_after, shown_after}
use Rattle.coniks_directory.specs.declared.epochs.Epoch.{Epoch}
use Rattle.coniks_directory.specs.declared.state.DirectoryState.{DirectoryState}
use Rattle.coniks_directory.specs.declared.update.Prepared.{Prepared}

-- the body is that of the epoch which the update makes under this number, after the entries that there are
abbrev pub IsNext : (Octets → Octets) → (Octets → Octets) → State → Prepared → ℕ → Body → Type 0
IsNext hash index_of s p t body = body ≡ body_of hash index_of s.policy (before_at hash s.before s.chain (length s.chain)) (shown_after s p t)

-- if the state is a directory's and the update one of it, then the body is the next one
abbrev pub IsSigned : (Octets → Octets) → State → Prepared → ℕ → Body → Type 0
IsSigned hash s p t body = (index_of : Octets → Octets) → Whole hash index_of s → IsUpdate hash index_of s p → IsNext hash index_of s p t body

-- there is room for the update's nodes and records, and for one more epoch and entry
pub record HasRoom (stored : DirectoryState) (p : Prepared) : Type 0 where
  pub nodes : length stored.tree.nodes + node_count p.part ≤ stored.tree.node_room
  pub records : length stored.tree.records + length p.records.items ≤ stored.tree.record_room
  pub epochs : vec_len stored.epochs < vec_capacity stored.epochs
  pub chain : vec_len stored.chain < vec_capacity stored.chain

-- what an install of the update under a number leaves
pub record Leaves (hash index_of : Octets → Octets) (s later : State) (p : Prepared) (t : ℕ) (entry : Entry) : Type 0 where
  pub whole : Whole hash index_of later
  pub history : history_of later ≡ history_of s ++ shown_after s p t ∷ []
  pub grows : Grows s later
  pub good : (verdict further : Octets → Octets → Bool) → ((bytes signature : Octets) → further bytes signature ≡ verdict bytes signature)
      → further (body_bytes entry.body) entry.signature.0 ≡ true → Continues hash verdict s.before s.chain → Continues hash further later.before later.chain

-- if the state is a directory's, the update one of it, the number a later one and the body the next one, then this is an install
abbrev pub IsEntered : (Octets → Octets) → State → State → Prepared → ℕ → Entry → Type 0
IsEntered hash s later p t entry = (index_of : Octets → Octets)
    → Whole hash index_of s → IsUpdate hash index_of s p → latest_epoch (history_of s) < t
    → IsNext hash index_of s p t entry.body → Leaves hash index_of s later p t entry

-- what attaching the update under a number leaves, whatever the entry says
pub record Attached (hash index_of : Octets → Octets) (s later : State) (p : Prepared) (t : ℕ) (entry : Entry) : Type 0 where
  pub stored : (k : ℕ) (e : Epoch) → slice_get later.epochs k ≡ Some e → HoldsEpoch hash index_of (table later.nodes later.records) e
  pub last : last_count later.epochs ≡ length later.records
  pub history : history_of later ≡ history_of s ++ shown_after s p t ∷ []
  pub grows : Grows s later
  pub chain : later.chain ≡ s.chain ++ entry ∷ []

-- if the epochs of the state are stored, and the update is one of it, then this attaches it
abbrev pub IsAttached : (Octets → Octets) → State → State → Prepared → ℕ → Entry → Type 0
IsAttached hash s later p t entry = (index_of : Octets → Octets)
    → ((k : ℕ) (e : Epoch) → slice_get s.epochs k ≡ Some e → HoldsEpoch hash index_of (table s.nodes s.records) e)
    → IsUpdate hash index_of s p → Attached hash index_of s later p t entry

-- the update of bindings on the state of `open` is that of an entry, which can be the first of the chain
pub record IsFirst (hash index_of : Octets → Octets) (s : State) (p : Prepared) (ops : List Operation) (entry : Entry) : Type 0 where
  pub later : entry.body.t_prev < entry.body.t
  pub version : p.version ≡ entry.body.version
  pub nonce : p.nonce.0 ≡ entry.body.nonce.0
  pub registry : registry_after s p ≡ after [] ops
  pub root : entry.body.root.0 ≡ root_of hash index_of p.nonce.0 (registry_after s p)
