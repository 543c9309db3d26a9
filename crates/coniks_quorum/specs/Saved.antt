-- What a client's state says, and its bytes. Numbers have their high byte first.
use Rattle.std.specs.Prelude.{ℕ, List, [], ◌∷◌, ◌++◌, Option, Some, None, drop, flat_map, length, map, slice_index, take}
use Rattle.std.specs.Int.{from_be_bytes, to_be_bytes, w32, w64}
use Rattle.std.specs.Option.{option_map}
use Rattle.coniks_chain.specs.Entries.{entry_length}
use Rattle.coniks_proof.specs.Octets.{Octets}
use Rattle.coniks_client.specs.declared.changes.Change.{Change}
use Rattle.coniks_client.specs.declared.stored.StoredEntry.{StoredEntry}
use Rattle.coniks_client.specs.declared.watching.Watch.{Watch}
use Rattle.coniks_quorum.specs.declared.alarms.Alarm.{Alarm}
use Rattle.coniks_quorum.specs.declared.states.client.Client.{Client}

-- a change of the watched key; a key of no byte is no key
pub record SavedChange : Type 0 where
  pub last_old : ℕ
  pub first_new : ℕ
  pub key : Octets

-- the watched name, the key that it has from an epoch on, and the changes of the key in their order
pub record SavedWatch : Type 0 where
  pub name : Octets
  pub since : ℕ
  pub key : Octets
  pub changes : List SavedChange

-- the policy digest, the stored epochs, the alarms of dropped ones, the hash of the trust document, a mark for each of its auditors, and the
-- watched name, if there is one
pub record SavedState : Type 0 where
  pub policy : Octets
  pub stored : List StoredEntry
  pub alarms : List Alarm
  pub trust : Octets
  pub marks : List ℕ
  pub watch : Option SavedWatch

-- the bytes of a stored epoch: its entry's 209, the time's 8, and the number of what was seen
abbrev pub stored_bytes : StoredEntry → Octets
stored_bytes mine = mine.entry ++ mine.first_seen ++ mine.seen ∷ []

-- the bytes of an alarm: its epoch's 8, and the number of what was seen
abbrev pub alarm_bytes : Alarm → Octets
alarm_bytes alarm = to_be_bytes w64 alarm.epoch ++ alarm.seen ∷ []

-- the bytes of a mark: its epoch's 8
abbrev pub mark_bytes : ℕ → Octets
mark_bytes mark = to_be_bytes w64 mark

-- parts of one size, with their number before them
abbrev pub counted_bytes : {X : Type 0} → (X → Octets) → List X → Octets
counted_bytes {X} one_bytes parts = to_be_bytes w32 (length parts) ++ flat_map one_bytes parts

-- a key with its length before it
abbrev pub key_bytes : Octets → Octets
key_bytes key = to_be_bytes w32 (length key) ++ key

abbrev pub change_bytes : SavedChange → Octets
change_bytes change = to_be_bytes w64 change.last_old ++ to_be_bytes w64 change.first_new ++ key_bytes change.key

-- a name with its length before it, the first watched epoch, and the first key
abbrev pub watched_bytes : Octets → ℕ → Octets → Octets
watched_bytes name since key = length name ∷ name ++ to_be_bytes w64 since ++ key_bytes key

abbrev pub watch_bytes : Option SavedWatch → Octets
watch_bytes None = 0 ∷ []
watch_bytes (Some watch) =
    1 ∷ watched_bytes watch.name watch.since watch.key ++ to_be_bytes w32 (length watch.changes) ++ flat_map change_bytes watch.changes

-- what is between the policy digest and the watch
abbrev pub front_bytes : List StoredEntry → List Alarm → Octets → List ℕ → Octets
front_bytes stored alarms trust marks = counted_bytes stored_bytes stored ++ counted_bytes alarm_bytes alarms ++ trust ++ counted_bytes mark_bytes marks

-- what is between the policy digest and the digest
abbrev pub part_bytes : SavedState → Octets
part_bytes state = front_bytes state.stored state.alarms state.trust state.marks ++ watch_bytes state.watch

-- all bytes but the digest
abbrev pub body_bytes : SavedState → Octets
body_bytes state = 3 ∷ state.policy ++ part_bytes state

-- the bytes of a state: the last ones are the hash of all before
abbrev pub state_bytes : (Octets → Octets) → SavedState → Octets
state_bytes hash state = body_bytes state ++ hash (body_bytes state)

-- what is saved of a client's change, of its watch with the changes, and of the client
abbrev pub saved_change : Change → SavedChange
saved_change change = record { last_old = change.last_old; first_new = change.first_new; key = change.key.now }

abbrev pub saved_watch : List Change → Watch → SavedWatch
saved_watch changes watch = record {
  name = watch.name.now;
  since = watch.since;
  key = watch.key.now;
  changes = map saved_change changes;
}

abbrev pub saved_state : Client → SavedState
saved_state client = record {
  policy = client.policy.now;
  stored = client.stored.now;
  alarms = client.alarms.now;
  trust = client.trust.now;
  marks = client.marks.now;
  watch = option_map (saved_watch client.changes.now) client.watch;
}

-- the stored epoch that 218 bytes are
abbrev pub stored_from : Octets → StoredEntry
stored_from bytes = record { entry = take entry_length bytes; first_seen = take 8 (drop entry_length bytes); seen = slice_index bytes 217 }

-- the alarm that 9 bytes are, and the mark that 8 are
abbrev pub alarm_from : Octets → Alarm
alarm_from bytes = record { epoch = from_be_bytes w64 (take 8 bytes); seen = slice_index bytes 8 }

abbrev pub mark_from : Octets → ℕ
mark_from bytes = from_be_bytes w64 bytes
