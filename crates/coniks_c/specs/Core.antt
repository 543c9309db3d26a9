-- A client in memory of the caller: what the numbers of its structs say.
use Rattle.std.specs.Prelude.{◌≡◌, ◌==◌, ◌≤◌, ℕ, List, Some, None, if◌then◌else◌, drop, length, take}
use Rattle.coniks_client.specs.declared.changes.Change.{Change}
use Rattle.coniks_client.specs.declared.stored.StoredEntry.{StoredEntry}
use Rattle.coniks_client.specs.declared.times.Present.{Present}
use Rattle.coniks_quorum.specs.declared.alarms.Alarm.{Alarm}
use Rattle.coniks_quorum.specs.declared.lost.Promise.{Promise}
use Rattle.coniks_quorum.specs.declared.lost.Promise.TheVariants.{Forever, Seconds}
use Rattle.coniks_c.specs.declared.core_client.RawChanges.{RawChanges}
use Rattle.coniks_c.specs.declared.core_client.RawCore.{RawCore}
use Rattle.coniks_c.specs.declared.core_client.RawRules.{RawRules}
use Rattle.coniks_c.specs.declared.core_client.RawStored.{RawStored}

-- the first ones of an array, as many as its count says
abbrev pub entries_in : RawStored → List StoredEntry
entries_in stored = take stored.count stored.items.now

abbrev pub all_in : RawChanges → List Change
all_in changes = take changes.count changes.items.now

-- so are the stored epochs of a client, the changes of the watched key, and the alarms
abbrev pub stored_in : RawCore → List StoredEntry
stored_in core = entries_in core.stored

abbrev pub changes_in : RawCore → List Change
changes_in core = all_in core.changes

abbrev pub alarms_in : RawCore → List Alarm
alarms_in core = take core.alarms.count core.alarms.items.now

-- the policy's clock, if the number says that it has one, and the time
abbrev pub present_in : RawRules → ℕ → Present
present_in rules time = record {
  clock =
      if rules.clock.is_there == 1
      then Some (record { start = rules.clock.start; period = rules.clock.period; max_age = rules.clock.max_age; skew = rules.clock.skew })
      else None;
  time = time;
}

-- how long the policy promises proofs: for this many seconds, if the number says so, else forever
abbrev pub promise_in : RawRules → Promise
promise_in rules = if rules.promise.is_limited == 1 then Seconds rules.promise.seconds else Forever

-- of the stored epochs only the first ones may have changed, as many as the count says; so it is for the changes
pub record IsMarkedIn (old new : RawStored) : Type 0 where
  pub count : new.count ≡ old.count
  pub room : drop old.count new.items.now ≡ drop old.count old.items.now

pub record AreChangedIn (old new : RawChanges) : Type 0 where
  pub count : new.count ≡ old.count
  pub room : drop old.count new.items.now ≡ drop old.count old.items.now

-- so of a client: nothing else has changed
pub record IsMarkedCore (old new : RawCore) : Type 0 where
  pub stored : IsMarkedIn old.stored new.stored
  pub changes : AreChangedIn old.changes new.changes
  pub others : new ≡ record old { stored = new.stored; changes = new.changes }

-- no count is greater than its room
pub record IsWithin (core : RawCore) : Type 0 where
  pub stored : core.stored.count ≤ length core.stored.items.now
  pub changes : core.changes.count ≤ length core.changes.items.now
  pub alarms : core.alarms.count ≤ length core.alarms.items.now
