-- What an owner's client has seen of its name: at each stored epoch, and at the dropped ones by its alarms.
use Rattle.std.specs.Prelude.{◌≡◌, ◌≢◌, ◌⊎◌, ◌<◌, ◌==◌, ◌||◌, ℕ, Bool, true, Some, if◌then◌else◌, nat_lt, slice_get}
use Rattle.coniks_client.specs.StoredEntry.{epoch_in}
use Rattle.coniks_client.specs.declared.stored.StoredEntry.{StoredEntry}
use Rattle.coniks_quorum.specs.Lost.{lost_at}
use Rattle.coniks_quorum.specs.declared.alarms.Alarm.{Alarm}
use Rattle.coniks_quorum.specs.declared.sights.Sight.{Sight}
use Rattle.coniks_quorum.specs.declared.sights.Sight.TheVariants.{Before, Same, Other, Awaited, Gone}
use Rattle.coniks_quorum.specs.declared.sights.View.{View}

-- what the number of a watched epoch says: 1 the same, 3 another key, 4 no key; each other one, as 5, that no reply was accepted
abbrev pub number_sight : ℕ → Bool → Sight
number_sight number lost = if number == 1 then Same else (if (number == 3) || (number == 4) then Other else (if lost then Gone else Awaited))

-- what is seen at a stored epoch
abbrev pub sight_of : View → ℕ → StoredEntry → Sight
sight_of view place mine =
    if nat_lt (epoch_in mine) view.since then Before else number_sight mine.seen (lost_at view.present view.promise view.stored.now place)

-- none of the first n stored epochs has this sight
abbrev pub SeesNoneTo : View → Sight → ℕ → Type 0
SeesNoneTo view sight n = (k : ℕ) (mine : StoredEntry) → k < n → slice_get view.stored.now k ≡ Some mine → sight_of view k mine ≢ sight

-- no stored epoch has
abbrev pub SeesNone : View → Sight → Type 0
SeesNone view sight = (k : ℕ) (mine : StoredEntry) → slice_get view.stored.now k ≡ Some mine → sight_of view k mine ≢ sight

-- the first stored epoch that has this sight has this number
pub record IsFirstSeen (view : View) (sight : Sight) (epoch : ℕ) : Type 0 where
  pub place : ℕ
  pub mine : StoredEntry
  pub there : slice_get view.stored.now place ≡ Some mine
  pub here : sight_of view place mine ≡ sight
  pub number : epoch_in mine ≡ epoch
  pub earlier : SeesNoneTo view sight place

-- what was seen of a dropped epoch; a missing one was lost
abbrev pub alarm_sight : Alarm → Sight
alarm_sight alarm = number_sight alarm.seen true

-- none of the first n alarms has this sight
abbrev pub AlarmsNoneTo : View → Sight → ℕ → Type 0
AlarmsNoneTo view sight n = (k : ℕ) (alarm : Alarm) → k < n → slice_get view.alarms.now k ≡ Some alarm → alarm_sight alarm ≢ sight

-- no alarm has
abbrev pub AlarmsNone : View → Sight → Type 0
AlarmsNone view sight = (k : ℕ) (alarm : Alarm) → slice_get view.alarms.now k ≡ Some alarm → alarm_sight alarm ≢ sight

-- the first alarm that has this sight is of this epoch
pub record IsFirstAlarm (view : View) (sight : Sight) (epoch : ℕ) : Type 0 where
  pub place : ℕ
  pub alarm : Alarm
  pub there : slice_get view.alarms.now place ≡ Some alarm
  pub here : alarm_sight alarm ≡ sight
  pub number : alarm.epoch ≡ epoch
  pub earlier : AlarmsNoneTo view sight place

-- the first epoch that has this sight: that of an alarm, else a stored one
abbrev pub IsFirstOf : View → Sight → ℕ → Type 0
IsFirstOf view sight epoch = IsFirstAlarm view sight epoch ⊎ (AlarmsNone view sight × IsFirstSeen view sight epoch)

-- neither an alarm nor a stored epoch has it
abbrev pub IsNowhere : View → Sight → Type 0
IsNowhere view sight = AlarmsNone view sight × SeesNone view sight
