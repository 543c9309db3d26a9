-- A directory that is restored from the latest entry and the bindings at it.
use Rattle.std.specs.Prelude.{◌≡◌, ◌≢◌, ◌<◌, ◌≤◌, ◌⊎◌, ℕ, List, [], ◌∷◌, map, Some, None}
use Rattle.std.specs.BTreeMap.{BTreeMap}
use Rattle.coniks_proof.specs.Batches.{Operation, after, first_fault, register}
use Rattle.coniks_proof.specs.Octets.{Octets}
use Rattle.coniks_proof.specs.Registry.{Registered, root_of}
use Rattle.coniks_tree.specs.declared.table.Record.{Record}
use Rattle.coniks_chain.specs.Evidence.{IsWellFormed}
use Rattle.coniks_chain.specs.declared.auditor.AuditorState.{AuditorState}
use Rattle.coniks_chain.specs.declared.entry.Entry.{Entry}
use Rattle.coniks_directory.specs.History.{Shown}
use Rattle.coniks_directory.specs.Judged.{ArePendingRecords}
use Rattle.coniks_directory.specs.State.{State, history_of, opened, registered_of}
use Rattle.coniks_directory.specs.declared.restoring.RestoreFault.{RestoreFault}
use Rattle.coniks_directory.specs.declared.restoring.RestoreFault.TheVariants.{NotLater, Version, Malformed, RootDiffers, OutOfMemory}

-- what an entry itself says of the one before it, with its own version and nonce
abbrev pub stated_before : Entry → AuditorState
stated_before entry = record { t = entry.body.t_prev; link = entry.body.previous; version = entry.body.version; nonce = entry.body.nonce }

-- the epoch of an entry, with the registry that bindings leave
abbrev pub restored_epoch : Entry → List Operation → Shown
restored_epoch entry ops = record { t = entry.body.t; version = entry.body.version; nonce = entry.body.nonce.0; registry = after [] ops }

-- the state has one epoch, that of the entry, with the registry of the bindings, and the entry as it is
pub record Restores (entry : Entry) (ops : List Operation) (s : State) : Type 0 where
  pub nonce : s.nonce ≡ entry.body.nonce.0
  pub policy : s.policy ≡ entry.body.policy
  pub before : s.before ≡ Some (stated_before entry)
  pub history : history_of s ≡ restored_epoch entry ops ∷ []
  pub chain : s.chain ≡ entry ∷ []

-- entry and bindings are restored: a good chain can have the entry, the bindings have no error, and their root is the entry's
pub record IsRestorable (hash index_of : Octets → Octets) (entry : Entry) (ops : List Operation) : Type 0 where
  pub formed : IsWellFormed entry.body
  pub faultless : first_fault index_of [] ops ≡ None
  pub root : entry.body.root.0 ≡ root_of hash index_of entry.body.nonce.0 (after [] ops)

-- the error of an entry that no good chain has: the first that applies, in their order; or an allocation failed
abbrev pub IsEntryFault : Entry → RestoreFault → Type 0
IsEntryFault entry NotLater = entry.body.t ≤ entry.body.t_prev
IsEntryFault entry Version = (entry.body.t_prev < entry.body.t) × (entry.body.version ≢ 1) × (entry.body.version ≢ 2)
IsEntryFault entry Malformed = (entry.body.t_prev < entry.body.t) × ((entry.body.version ≡ 1) ⊎ (entry.body.version ≡ 2)) × (¬ IsWellFormed entry.body)
IsEntryFault entry RootDiffers = ⊥
IsEntryFault entry OutOfMemory = IsWellFormed entry.body

-- the error of a restore of bindings: their root isn't the entry's, or an allocation failed
abbrev pub IsRestoreFault : (hash index_of : Octets → Octets) → Entry → List Operation → RestoreFault → Type 0
IsRestoreFault hash index_of entry ops NotLater = ⊥
IsRestoreFault hash index_of entry ops Version = ⊥
IsRestoreFault hash index_of entry ops Malformed = ⊥
IsRestoreFault hash index_of entry ops RootDiffers = entry.body.root.0 ≢ root_of hash index_of entry.body.nonce.0 (after [] ops)
IsRestoreFault hash index_of entry ops OutOfMemory = Unit {0}

-- a restore that has begun, as contracts see it: the hash, the index source, the entry, and the bindings so far
pub record RestoringView (H X : Type 0) : Type 0 where
  pub hash : H
  pub index : X
  pub entry : Entry
  pub ops : List Operation

-- the operation that registers a binding
abbrev pub registration : Registered → Operation
registration b = record { kind = register; name = b.name; key = b.key; opening = b.opening }

-- the operations that register what records bind
abbrev pub registrations : List Record → List Operation
registrations records = map registration (map registered_of records)

-- a good chain can have the entry, the state is that of `open` under the entry's nonce and policy, and the bindings so far have no error
pub record IsRestoring (hash index_of : Octets → Octets) (entry : Entry) (s : State) (records : List Record) (numbers : BTreeMap Octets ℕ) : Type 0 where
  pub formed : IsWellFormed entry.body
  pub opened : s ≡ opened entry.body.nonce.0 entry.body.policy
  pub pending : ArePendingRecords hash index_of (map registered_of records) records numbers
  pub faultless : first_fault index_of [] (registrations records) ≡ None
