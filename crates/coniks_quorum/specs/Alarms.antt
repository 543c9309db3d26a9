-- The alarms that dropped epochs leave.
use Rattle.std.specs.Prelude.{◌≡◌, ◌⊎◌, ◌≤◌, ◌+◌, ◌++◌, ◌==◌, ◌&&◌, ℕ, List, Bool, Some, not, nat_le, drop, filter, length, map, slice_get, take, take_while}
use Rattle.coniks_client.specs.StoredEntry.{epoch_in}
use Rattle.coniks_client.specs.Owner.{IsSame}
use Rattle.coniks_client.specs.declared.stored.StoredEntry.{StoredEntry}
use Rattle.coniks_quorum.specs.declared.alarms.Alarm.{Alarm}

-- a watched epoch that was not seen as the same
abbrev pub is_alarming : ℕ → StoredEntry → Bool
is_alarming since mine = (nat_le since (epoch_in mine)) && (not (mine.seen == 1))

-- the alarm of an epoch
abbrev pub alarm_at : StoredEntry → Alarm
alarm_at mine = record { epoch = epoch_in mine; seen = mine.seen }

-- the alarms that epochs leave when they are dropped, in their order
abbrev pub alarms_of : ℕ → List StoredEntry → List Alarm
alarms_of since dropped = map alarm_at (filter (is_alarming since) dropped)

-- alarms were written after the first ones, up to here, and nothing else was changed
pub record IsAppended (old new : List Alarm) (count : ℕ) (more : List Alarm) (end : ℕ) : Type 0 where
  pub total : end ≡ count + length more
  pub size : length new ≡ length old
  pub first : take end new ≡ take count old ++ more
  pub rest : drop end new ≡ drop end old

-- the number of the first alarms whose epoch is this one or an earlier one
abbrev pub AreNoted : List Alarm → ℕ → ℕ → Type 0
AreNoted alarms epoch n = n ≡ length (take_while (λ alarm. nat_le alarm.epoch epoch) alarms)

-- each dropped watched epoch was seen as the same, or its alarm is there
abbrev pub AreLogged : ℕ → List StoredEntry → List Alarm → Type 0
AreLogged since dropped alarms = (k : ℕ) (mine : StoredEntry) → slice_get dropped k ≡ Some mine → since ≤ epoch_in mine
    → IsSame mine.seen ⊎ ((j : ℕ) × (slice_get alarms j ≡ Some (alarm_at mine)))

-- it stays so when epochs are dropped and their alarms come after the others
abbrev pub LogLaw : Type 0
LogLaw = (since : ℕ) (dropped more : List StoredEntry) (alarms : List Alarm) → AreLogged since dropped alarms
    → AreLogged since (dropped ++ more) (alarms ++ alarms_of since more)
