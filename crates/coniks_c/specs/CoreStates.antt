-- A client's state between C and the libraries, and what the caller verified of it.
use Rattle.std.specs.Prelude.{◌≡◌, ◌⊎◌, ◌<◌, ◌≤◌, ◌+◌, ◌*◌, ◌^◌, ℕ, List, [], Bool, Option, Some, None, length, map, slice_get}
use Rattle.std.specs.Option.{option_map}
use Rattle.coniks_proof.specs.Octets.{Octets}
use Rattle.coniks_proof.specs.Sha256.{sha256}
use Rattle.coniks_client.specs.StoredEntry.{IsChain, entry_in, verified_before}
use Rattle.coniks_client.specs.declared.changes.Change.{Change}
use Rattle.coniks_client.specs.declared.stored.StoredEntry.{StoredEntry}
use Rattle.coniks_client.specs.declared.watching.Watch.{Watch}
use Rattle.coniks_quorum.specs.declared.alarms.Alarm.{Alarm}
use Rattle.coniks_quorum.specs.StateForms.{AreSized, IsStateOf}
use Rattle.coniks_quorum.specs.StateReading.{IsNoState}
use Rattle.coniks_quorum.specs.Restoring.{AreVerified, IsFirstBad, IsGoodAt}
use Rattle.coniks_quorum.specs.Saved.{SavedChange, SavedState, SavedWatch, stored_from, saved_change, saved_watch}
use Rattle.coniks_quorum.specs.Says.{AreMarksAfter, Says, SaysWatch}
use Rattle.coniks_quorum.specs.StateWriting.{HasState, size_of}
use Rattle.coniks_quorum.specs.declared.states.reading.StateFault.{StateFault}
use Rattle.coniks_quorum.specs.declared.states.state.State.{State}
use Rattle.coniks_quorum.specs.declared.states.state.Watched.{Watched}
use Rattle.coniks_c.specs.Checked.{part}
use Rattle.coniks_c.specs.Core.{alarms_in, changes_in, stored_in}
use Rattle.coniks_c.specs.CoreStatuses.{state_status}
use Rattle.coniks_c.specs.CoreReported.{watch_in}
use Rattle.coniks_c.specs.Crossing.{IsReportedBy}
use Rattle.coniks_c.specs.declared.core_client.RawCore.{RawCore}
use Rattle.coniks_c.specs.declared.core_state.RawStateNeeds.{RawStateNeeds}

-- what the state of a client has of it
abbrev pub client_state : Octets → List StoredEntry → Option Watch → List Change → List Alarm → Octets → List ℕ → SavedState
client_state policy stored watch changes alarms trust marks = record {
  policy = policy;
  stored = stored;
  alarms = alarms;
  trust = trust;
  marks = marks;
  watch = option_map (saved_watch changes) watch;
}

-- what it has of a client in C
abbrev pub saved_in : RawCore → SavedState
saved_in core = client_state core.rules.policy.bytes (stored_in core) (watch_in core.watch) (changes_in core) (alarms_in core) core.rules.trust.bytes core.marks.items.now

-- a client has no state, or one of 2^64 bytes or more
abbrev pub HasNoState : SavedState → Type 0
HasNoState state = (¬ HasState state) ⊎ (2 ^ 64 ≤ size_of state)

-- the changes of a watch, none if no name is watched
abbrev pub saved_changes : Option SavedWatch → List SavedChange
saved_changes None = []
saved_changes (Some watch) = watch.changes

-- their number, as a state that was read has it
abbrev pub count_in : Option Watched → ℕ
count_in None = 0
count_in (Some watched) = watched.count

-- the numbers of stored epochs, of changes and of alarms, and where the entries are
pub record AreNeeds (saved : SavedState) (state : Octets) (needs : RawStateNeeds) : Type 0 where
  pub stored : needs.stored ≡ length saved.stored
  pub changes : needs.changes ≡ length (saved_changes saved.watch)
  pub alarms : needs.alarms ≡ length saved.alarms
  pub entries : (k : ℕ) (mine : StoredEntry) → slice_get saved.stored k ≡ Some mine → part state (needs.entry_start + k * needs.entry_step) 209 ≡ mine.entry

-- the caller's number at a place is 1
abbrev pub IsValidAt : List ℕ → ℕ → Type 0
IsValidAt verdicts place = slice_get verdicts place ≡ Some 1

-- so are the first ones, this many; or one of them is not
abbrev pub AreValid : List ℕ → ℕ → Type 0
AreValid verdicts count = (k : ℕ) → k < count → IsValidAt verdicts k

abbrev pub AreNotValid : List ℕ → ℕ → Type 0
AreNotValid verdicts count = (k : ℕ) × (k < count) × (¬ IsValidAt verdicts k)

-- the caller's number at a place, 0 if there is none
abbrev pub reported_at : Option ℕ → ℕ
reported_at None = 0
reported_at (Some reported) = reported

-- the function's result for the signature of each stored entry is good if and only if the caller's number for it is 1
abbrev pub AreReportedBy : (Octets → Octets → Bool) → List StoredEntry → List ℕ → Type 0
AreReportedBy verdict stored verdicts =
    (k : ℕ) (mine : StoredEntry) → slice_get stored k ≡ Some mine → IsReportedBy verdict (entry_in mine) (reported_at (slice_get verdicts k))

-- the signature of a stored entry is not valid by the caller's numbers; or all are valid, and an epoch is no next one of a chain
abbrev pub IsRefusedChain : Octets → List StoredEntry → List ℕ → Type 0
IsRefusedChain policy stored verdicts =
    AreNotValid verdicts (length stored) ⊎ (AreValid verdicts (length stored) × ((place : ℕ) × IsFirstBad sha256 verified_before policy stored place))

-- there is room for the parts of a state
pub record HasRoomFor (core : RawCore) (parts : State) : Type 0 where
  pub stored : length parts.stored.now ≤ length core.stored.items.now
  pub changes : count_in parts.watch ≤ length core.changes.items.now
  pub alarms : length parts.alarms.now ≤ length core.alarms.items.now

-- a state that was read for a client with this room, and whose signatures the caller verified
pub record IsRead (core : RawCore) (state : Octets) (verdicts : List ℕ) (parts : State) : Type 0 where
  pub saved : SavedState
  pub is : IsStateOf sha256 core.rules.policy.bytes saved state
  pub says : Says parts saved
  pub few : HasRoomFor core parts
  pub valid : AreValid verdicts (length parts.stored.now)
  pub chain : IsChain sha256 (map stored_from parts.stored.now)
  pub verified : AreVerified verified_before core.rules.policy.bytes (map stored_from parts.stored.now)

-- there is room for the stored epochs, the changes and the alarms
pub record HasRoom (core : RawCore) (saved : SavedState) : Type 0 where
  pub stored : length saved.stored ≤ length core.stored.items.now
  pub changes : length (saved_changes saved.watch) ≤ length core.changes.items.now
  pub alarms : length saved.alarms ≤ length core.alarms.items.now

-- the first error: no state of this policy, no room, no chain of entries whose signatures are valid by the caller's numbers
abbrev pub IsUnread : RawCore → Octets → List ℕ → ℕ → Type 0
IsUnread core state verdicts status =
    ((fault : StateFault) × (status ≡ state_status fault) × IsNoState sha256 core.rules.policy.bytes state fault)
    ⊎ ((status ≡ 137) × ((saved : SavedState) × IsStateOf sha256 core.rules.policy.bytes saved state × (¬ HasRoom core saved)))
    ⊎ ((status ≡ 101) × ((saved : SavedState) × IsStateOf sha256 core.rules.policy.bytes saved state × HasRoom core saved
    × IsRefusedChain core.rules.policy.bytes saved.stored verdicts))

-- The client has the parts of a state. Its marks are those of the state, if it is of this trust document and of this number of auditors,
-- else 0.
pub record IsTaken (core : RawCore) (state : Octets) : Type 0 where
  pub saved_trust : Octets
  pub saved_marks : List ℕ
  pub is : IsStateOf sha256 core.rules.policy.bytes
      (client_state core.rules.policy.bytes (stored_in core) (watch_in core.watch) (changes_in core) (alarms_in core) saved_trust saved_marks) state
  pub marks_are : AreMarksAfter saved_trust saved_marks core.rules.trust.bytes core.marks.items.now

-- these are the changes of a watch that was read, and this is their number
abbrev pub AreCopied : Option Watched → List Change → ℕ → Type 0
AreCopied watch copied count = (saved : Option SavedWatch) → AreSized saved → SaysWatch watch saved
    → (count ≡ length (saved_changes saved)) × (map saved_change copied ≡ saved_changes saved)

-- a stored epoch is not verified, or does not follow the one before it
abbrev pub IsNoChain : (Octets → Octets → Bool) → Octets → List StoredEntry → Type 0
IsNoChain verdict policy stored = (place : ℕ) × (mine : StoredEntry) × (slice_get stored place ≡ Some mine) × (¬ IsGoodAt sha256 verdict policy stored place mine)
