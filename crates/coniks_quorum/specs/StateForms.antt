-- When a state has bytes, and when it is one that a client can have.
use Rattle.std.specs.Prelude.{◌≡◌, ◌≢◌, ◌⊎◌, ◌<◌, ◌≤◌, ◌^◌, ℕ, List, [], ◌∷◌, ◌++◌, Option, Some, None, All, length}
use Rattle.coniks_chain.specs.Entries.{entry_length}
use Rattle.coniks_proof.specs.Octets.{Octets}
use Rattle.coniks_client.specs.StoredEntry.{epoch_in}
use Rattle.coniks_client.specs.declared.stored.StoredEntry.{StoredEntry}
use Rattle.coniks_quorum.specs.declared.alarms.Alarm.{Alarm}
use Rattle.coniks_quorum.specs.Saved.{SavedChange, SavedState, SavedWatch, body_bytes}

-- an entry of 209 bytes, and a time of 8
pub record IsStored (mine : StoredEntry) : Type 0 where
  pub entry : length mine.entry ≡ entry_length
  pub time : length mine.first_seen ≡ 8

-- the epoch of an alarm, and a mark, are below 2^64
abbrev pub IsAlarm : Alarm → Type 0
IsAlarm alarm = alarm.epoch < 2 ^ 64

abbrev pub IsMark : ℕ → Type 0
IsMark mark = mark < 2 ^ 64

-- fewer than 2^32 parts, each of which is so
pub record AreCounted {X : Type 0} (IsPart : X → Type 0) (parts : List X) : Type 0 where
  pub few : length parts < 2 ^ 32
  pub sized : All IsPart parts

-- epochs below 2^64, and a key below 2^32 bytes
pub record IsSizedChange (change : SavedChange) : Type 0 where
  pub last_old : change.last_old < 2 ^ 64
  pub first_new : change.first_new < 2 ^ 64
  pub key : length change.key < 2 ^ 32

-- a name of 1 to 255 bytes, an epoch below 2^64, and a key below 2^32 bytes
pub record IsSizedName (name : Octets) (since : ℕ) (key : Octets) : Type 0 where
  pub some : 0 < length name
  pub short : length name < 256
  pub epoch : since < 2 ^ 64
  pub key_short : length key < 2 ^ 32

-- fewer than 2^32 changes
pub record IsSizedWatch (watch : SavedWatch) : Type 0 where
  pub name : IsSizedName watch.name watch.since watch.key
  pub few : length watch.changes < 2 ^ 32
  pub changes : All IsSizedChange watch.changes

abbrev pub AreSized : Option SavedWatch → Type 0
AreSized None = Unit {0}
AreSized (Some watch) = IsSizedWatch watch

-- fewer than 2^32 stored epochs, alarms and marks: a state that has bytes
pub record IsSized (state : SavedState) : Type 0 where
  pub policy : length state.policy ≡ 32
  pub stored : AreCounted IsStored state.stored
  pub alarms : AreCounted IsAlarm state.alarms
  pub trust : length state.trust ≡ 32
  pub marks : AreCounted IsMark state.marks
  pub watch : AreSized state.watch

-- each change has its last old epoch before its first new one, and at or after the first new one of the change before it
abbrev pub AreOrdered : ℕ → List SavedChange → Type 0
AreOrdered from [] = Unit {0}
AreOrdered from (change ∷ later) = (from ≤ change.last_old) × (change.last_old < change.first_new) × AreOrdered change.first_new later

-- each change has another key than there was before it
abbrev pub AreDistinct : Octets → List SavedChange → Type 0
AreDistinct key [] = Unit {0}
AreDistinct key (change ∷ later) = (key ≢ change.key) × AreDistinct change.key later

-- an epoch is not strictly inside the window of a change
abbrev pub IsOutside : ℕ → SavedChange → Type 0
IsOutside epoch change = (epoch ≤ change.last_old) ⊎ (change.first_new ≤ epoch)

-- a stored epoch did not show the same, or is outside the window of a change
abbrev pub IsClearAt : SavedChange → StoredEntry → Type 0
IsClearAt change mine = mine.seen ≡ 1 → IsOutside (epoch_in mine) change

-- so is each of them
abbrev pub IsClear : List StoredEntry → SavedChange → Type 0
IsClear stored change = All (IsClearAt change) stored

-- the numbers of a watched epoch: the same, another key, no key, missing
abbrev pub IsSeen : ℕ → Type 0
IsSeen number = (number ≡ 1) ⊎ (number ≡ 3) ⊎ (number ≡ 4) ⊎ (number ≡ 5)

-- an epoch before the first watched one has the number 0, and a later one that of what was seen
abbrev pub Fits : Option ℕ → StoredEntry → Type 0
Fits None mine = mine.seen ≡ 0
Fits (Some since) mine = ((epoch_in mine < since) × (mine.seen ≡ 0)) ⊎ ((since ≤ epoch_in mine) × IsSeen mine.seen)

-- the numbers of an alarm: another key, no key, missing
abbrev pub IsAlarming : ℕ → Type 0
IsAlarming number = (number ≡ 3) ⊎ (number ≡ 4) ⊎ (number ≡ 5)

-- an alarm is of a watched epoch; without a watched name there is none
abbrev pub AlarmFits : Option ℕ → Alarm → Type 0
AlarmFits None alarm = ⊥
AlarmFits (Some since) alarm = (since ≤ alarm.epoch) × IsAlarming alarm.seen

-- the first watched epoch, if a name is watched
abbrev pub since_of : Option SavedWatch → Option ℕ
since_of None = None
since_of (Some watch) = Some watch.since

-- the changes after a key, beside the stored epochs
pub record AreFormed (stored : List StoredEntry) (key : Octets) (changes : List SavedChange) : Type 0 where
  pub order : AreOrdered 0 changes
  pub distinct : AreDistinct key changes
  pub clear : All (IsClear stored) changes

abbrev pub IsFormedWatch : List StoredEntry → Option SavedWatch → Type 0
IsFormedWatch stored None = Unit {0}
IsFormedWatch stored (Some watch) = AreFormed stored watch.key watch.changes

-- numbers, alarms, and changes, that a client can have
pub record IsFormed (state : SavedState) : Type 0 where
  pub numbers : All (Fits (since_of state.watch)) state.stored
  pub alarms : All (AlarmFits (since_of state.watch)) state.alarms
  pub changes : IsFormedWatch state.stored state.watch

-- bytes of which the last 32 are the hash of those before
pub record IsSealed (hash : Octets → Octets) (body bytes : Octets) : Type 0 where
  pub same : bytes ≡ body ++ hash body
  pub digest : length (hash body) ≡ 32

-- the bytes of a state
pub record AreBytesOf (hash : Octets → Octets) (state : SavedState) (bytes : Octets) : Type 0 where
  pub sized : IsSized state
  pub is_sealed : IsSealed hash (body_bytes state) bytes

-- the bytes of a state that a client of this policy can have
pub record IsStateOf (hash : Octets → Octets) (policy : Octets) (state : SavedState) (bytes : Octets) : Type 0 where
  pub bytes_of : AreBytesOf hash state bytes
  pub own : state.policy ≡ policy
  pub formed : IsFormed state
