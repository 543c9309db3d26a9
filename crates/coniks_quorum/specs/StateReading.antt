-- Why bytes are no state.
use Rattle.std.specs.Prelude.{◌≡◌, ◌≢◌, ◌<◌, ◌≤◌, ◌^◌, ℕ, List, ◌++◌, All, Option, drop, flat_map, length, slice_index, take, ◌-◌, ◌*◌}
use Rattle.std.specs.Int.{to_be_bytes, w32}
use Rattle.coniks_proof.specs.Octets.{Octets}
use Rattle.coniks_client.specs.declared.stored.StoredEntry.{StoredEntry}
use Rattle.coniks_quorum.specs.declared.alarms.Alarm.{Alarm}
use Rattle.coniks_quorum.specs.StateForms.{AreCounted, AreDistinct, AreFormed, AreOrdered, AreSized, IsAlarm, IsClear, IsFormed, IsFormedWatch, IsStored, IsMark, IsSized, IsSizedChange, IsSizedName, IsSizedWatch, IsStateOf}
use Rattle.coniks_quorum.specs.Saved.{SavedChange, SavedState, SavedWatch, change_bytes, counted_bytes, front_bytes, key_bytes, part_bytes, watch_bytes, watched_bytes}
use Rattle.coniks_quorum.specs.declared.states.reading.StateFault.{StateFault}
use Rattle.coniks_quorum.specs.declared.states.reading.StateFault.TheVariants.{StateLength, StateVersion, StateDamaged, StatePolicy, StateForm}

-- all bytes but the last 32, and these
abbrev pub body_in : Octets → Octets
body_in bytes = take (length bytes - 32) bytes

abbrev pub digest_in : Octets → Octets
digest_in bytes = drop (length bytes - 32) bytes

-- the policy digest in them
abbrev pub policy_in : Octets → Octets
policy_in bytes = take 32 (drop 1 bytes)

-- of a version and a length that a state has
pub record IsOfVersion (bytes : Octets) : Type 0 where
  pub long : 110 ≤ length bytes
  pub version : slice_index bytes 0 ≡ 3

-- and whole
pub record IsWhole (hash : Octets → Octets) (bytes : Octets) : Type 0 where
  pub of_version : IsOfVersion bytes
  pub digest : digest_in bytes ≡ hash (body_in bytes)

-- the first error of bytes that are no state of a client of this policy; they have no right form if no such state has these bytes
abbrev pub IsNoState : (Octets → Octets) → Octets → Octets → StateFault → Type 0
IsNoState hash policy bytes StateLength = length bytes < 110
IsNoState hash policy bytes StateVersion = (110 ≤ length bytes) × (slice_index bytes 0 ≢ 3)
IsNoState hash policy bytes StateDamaged = IsOfVersion bytes × (digest_in bytes ≢ hash (body_in bytes))
IsNoState hash policy bytes StatePolicy = IsWhole hash bytes × (policy_in bytes ≢ policy)
IsNoState hash policy bytes StateForm =
    IsWhole hash bytes × (policy_in bytes ≡ policy) × ((state : SavedState) → ¬ IsStateOf hash policy state bytes)

-- the parts that bytes begin with, and what follows them: a key
pub record BeginsWithKey (bytes key rest : Octets) : Type 0 where
  pub sized : length key < 2 ^ 32
  pub same : bytes ≡ key_bytes key ++ rest

-- a change
pub record BeginsWithChange (bytes : Octets) (change : SavedChange) (rest : Octets) : Type 0 where
  pub sized : IsSizedChange change
  pub same : bytes ≡ change_bytes change ++ rest

-- parts of one size, with their number before them: the stored epochs, the alarms, or the marks
pub record BeginsWithParts {X : Type 0} (one_bytes : X → Octets) (IsPart : X → Type 0) (bytes : Octets) (parts : List X) (rest : Octets) : Type 0 where
  pub counted : AreCounted IsPart parts
  pub same : bytes ≡ counted_bytes one_bytes parts ++ rest

-- a number, and the bytes of this number of parts of one size
pub record BeginsWithCount (one : ℕ) (bytes : Octets) (count : ℕ) (parts rest : Octets) : Type 0 where
  pub few : count < 2 ^ 32
  pub size : length parts ≡ count * one
  pub same : bytes ≡ to_be_bytes w32 count ++ parts ++ rest

-- all parts before the watch
pub record BeginsWithFront (bytes : Octets) (stored : List StoredEntry) (alarms : List Alarm) (trust : Octets) (marks : List ℕ) (rest : Octets) : Type 0 where
  pub stored_counted : AreCounted IsStored stored
  pub alarms_counted : AreCounted IsAlarm alarms
  pub trust_size : length trust ≡ 32
  pub marks_counted : AreCounted IsMark marks
  pub same : bytes ≡ front_bytes stored alarms trust marks ++ rest

-- a name, the first watched epoch, a key, and the number of changes
pub record BeginsWithName (bytes name : Octets) (since : ℕ) (key : Octets) (count : ℕ) (rest : Octets) : Type 0 where
  pub sized : IsSizedName name since key
  pub few : count < 2 ^ 32
  pub same : bytes ≡ watched_bytes name since key ++ to_be_bytes w32 count ++ rest

-- bytes are this number of changes, which may follow a key and an epoch
pub record AreChanges (stored : List StoredEntry) (from : ℕ) (key : Octets) (count : ℕ) (bytes : Octets) (changes : List SavedChange) : Type 0 where
  pub size : length changes ≡ count
  pub same : bytes ≡ flat_map change_bytes changes
  pub sized : All IsSizedChange changes
  pub order : AreOrdered from changes
  pub distinct : AreDistinct key changes
  pub clear : All (IsClear stored) changes

-- bytes are such changes
pub record HasChanges (stored : List StoredEntry) (from : ℕ) (key : Octets) (count : ℕ) (bytes : Octets) : Type 0 where
  pub changes : List SavedChange
  pub are : AreChanges stored from key count bytes changes

-- a change may be the next one after an epoch and a key, beside the stored epochs
pub record MayFollow (stored : List StoredEntry) (from : ℕ) (key : Octets) (change : SavedChange) : Type 0 where
  pub after : from ≤ change.last_old
  pub later : change.last_old < change.first_new
  pub other : key ≢ change.key
  pub clear : IsClear stored change

-- after the kind, bytes are a watched name, with changes that a client can have beside these stored epochs
pub record IsWatched (stored : List StoredEntry) (watch : SavedWatch) (bytes : Octets) : Type 0 where
  pub sized : IsSizedWatch watch
  pub formed : AreFormed stored watch.key watch.changes
  pub same : bytes ≡ watched_bytes watch.name watch.since watch.key ++ to_be_bytes w32 (length watch.changes) ++ flat_map change_bytes watch.changes

-- bytes are a watch, or that there is none
pub record IsWatch (stored : List StoredEntry) (watch : Option SavedWatch) (bytes : Octets) : Type 0 where
  pub sized : AreSized watch
  pub formed : IsFormedWatch stored watch
  pub same : bytes ≡ watch_bytes watch

-- bytes are what is between the policy digest and the digest of a state that a client can have
pub record IsRest (state : SavedState) (bytes : Octets) : Type 0 where
  pub sized : IsSized state
  pub formed : IsFormed state
  pub same : bytes ≡ part_bytes state

-- bytes are whole, with a digest of 32 bytes, and of this policy
pub record IsOpened (hash : Octets → Octets) (policy bytes : Octets) : Type 0 where
  pub whole : IsWhole hash bytes
  pub digest : length (hash (body_in bytes)) ≡ 32
  pub own : policy_in bytes ≡ policy
