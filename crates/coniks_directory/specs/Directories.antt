-- A directory as contracts see it, and what is stated about the whole of it.
use Rattle.std.specs.Prelude.{◌≡◌, ◌==◌, ℕ, List, length, Bool, Option, option_map}
use Rattle.std.specs.List.{find}
use Rattle.coniks_proof.specs.Octets.{Octets}
use Rattle.coniks_chain.specs.Chain.{Continues, before_at}
use Rattle.coniks_chain.specs.declared.entry.Body.{Body}
use Rattle.coniks_chain.specs.declared.entry.Entry.{Entry}
use Rattle.coniks_proof.specs.Registry.{Registry}
use Rattle.coniks_proof.specs.declared.paths.Proof.{Proof}
use Rattle.coniks_proof.specs.declared.values.Head.{Head}
use Rattle.coniks_proof.specs.declared.values.Index.{Index}
use Rattle.coniks_directory.specs.Chain.{body_of, heads_of}
use Rattle.coniks_directory.specs.History.{Shown, latest_registry, root_at, shown_at}
use Rattle.coniks_directory.specs.Lookups.{IsAcceptedAt, IsFound}
use Rattle.coniks_directory.specs.State.{View, history_of}
use Rattle.coniks_directory.specs.Supplied.{AgreeOn}
use Rattle.coniks_directory.specs.SuppliedBatches.{index_in, indexed}
use Rattle.coniks_directory.specs.declared.batch.Op.{Op}

-- the epochs of a directory, each with its registry
abbrev pub history : {H X : Type 0} → View H X → List Shown
history {H} {X} d = history_of d.state

-- the registry of its latest epoch
abbrev pub registry : {H X : Type 0} → View H X → Registry
registry {H} {X} d = latest_registry (history_of d.state)

-- the entry of the epoch of exactly this number
abbrev pub entry : {H X : Type 0} → View H X → ℕ → Option Entry
entry {H} {X} d t = find (λ (e : Entry). e.body.t == t) d.state.chain

-- what is stated about a directory by the digests of its hash and the indices of its source
module _ {H X : Type 0} (digest : H → Octets → Octets) (index : X → Octets → Octets) (d : View H X) where
  -- the root of the epoch of exactly this number
  abbrev pub root_of_epoch : ℕ → Option Octets
  root_of_epoch t = option_map (root_at (digest d.hash) (index d.index)) (shown_at (history d) t)

  -- a function of indices gives each registered name the index that the source gives it, and this name this index
  abbrev pub GivesIndex : Octets → Octets → (Octets → Octets) → Type 0
  GivesIndex name supplied index_of = AgreeOn (index d.index) index_of (registry d) × (index_of name ≡ supplied)

  -- by each such function a lookup of the name at an epoch gives this proof
  abbrev pub FindsAt : ℕ → Octets → Octets → Proof → Type 0
  FindsAt t name supplied proof = (index_of : Octets → Octets)
      → GivesIndex name supplied index_of → IsFound (digest d.hash) index_of (history d) t name proof

  -- and it is accepted for the name at the epoch
  abbrev pub ShowsAt : ℕ → Octets → Octets → Proof → Type 0
  ShowsAt t name supplied proof = (index_of : Octets → Octets) → GivesIndex name supplied index_of
      → IsAcceptedAt (digest d.hash) index_of (history d) t name proof

-- the body of the next entry by a function of indices, the heads that the chain had, and that it is good by a function of verdicts
module _ {H X : Type 0} (digest : H → Octets → Octets) where
  abbrev pub NextBodyBy : View H X → (Octets → Octets) → Shown → Body
  NextBodyBy d index_of shown =
      body_of (digest d.hash) index_of d.state.policy (before_at (digest d.hash) d.state.before d.state.chain (length d.state.chain)) shown

  abbrev pub heads : View H X → List Head
  heads d = heads_of (digest d.hash) d.state.chain

  abbrev pub HasGoodChain : (Octets → Octets → Bool) → View H X → Type 0
  HasGoodChain verdict d = Continues (digest d.hash) verdict d.state.before d.state.chain

-- the body of the next entry, whose epoch this is
abbrev pub NextBody : {H X : Type 0} → (H → Octets → Octets) → (X → Octets → Octets) → View H X → Shown → Body
NextBody {H} {X} digest index d shown = NextBodyBy digest d (index d.index) shown

-- the indices that operations are checked by: those that the source gives registered names, and those that come with the operations
abbrev pub index_with : {H X : Type 0} → (X → Octets → Octets) → View H X → List Op → List Index → Octets → Octets
index_with {H} {X} index d ops indices = index_in (index d.index) (registry d) (indexed ops indices)

-- the hash and the source of indices are the same
pub record IsAlike {H X : Type 0} (d e : View H X) : Type 0 where
  pub hash : d.hash ≡ e.hash
  pub index : d.index ≡ e.index
