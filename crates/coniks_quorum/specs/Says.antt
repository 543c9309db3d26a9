-- What the parts of a state that was read say.
use Rattle.std.specs.Prelude.{◌≡◌, ℕ, List, All, Option, Some, None, flat_map, length, map}
use Rattle.coniks_proof.specs.Octets.{Octets}
use Rattle.coniks_quorum.specs.Saved.{SavedState, SavedWatch, alarm_from, change_bytes, stored_from, mark_from}
use Rattle.coniks_quorum.specs.declared.states.state.State.{State}
use Rattle.coniks_quorum.specs.declared.states.state.Watched.{Watched}

-- the parts of a watched name
pub record SaysWatched (watched : Watched) (saved : SavedWatch) : Type 0 where
  pub name : watched.watch.name.now ≡ saved.name
  pub since : watched.watch.since ≡ saved.since
  pub key : watched.watch.key.now ≡ saved.key
  pub count : watched.count ≡ length saved.changes
  pub changes : watched.changes.now ≡ flat_map change_bytes saved.changes

abbrev pub SaysWatch : Option Watched → Option SavedWatch → Type 0
SaysWatch None None = Unit {0}
SaysWatch None (Some saved) = ⊥
SaysWatch (Some watched) None = ⊥
SaysWatch (Some watched) (Some saved) = SaysWatched watched saved

-- the parts are those of a state
pub record Says (state : State) (saved : SavedState) : Type 0 where
  pub stored : map stored_from state.stored.now ≡ saved.stored
  pub alarms : map alarm_from state.alarms.now ≡ saved.alarms
  pub trust : state.trust.now ≡ saved.trust
  pub marks : map mark_from state.marks.now ≡ saved.marks
  pub watch : SaysWatch state.watch saved.watch

-- The marks of a client that goes on after a state: the saved ones if its trust document and its number of auditors are those of the
-- state, else 0.
pub record AreMarksAfter (saved_trust : Octets) (saved : List ℕ) (trust : Octets) (marks : List ℕ) : Type 0 where
  pub same : saved_trust ≡ trust → length saved ≡ length marks → marks ≡ saved
  pub other : ¬ ((saved_trust ≡ trust) × (length saved ≡ length marks)) → All (λ mark. mark ≡ 0) marks
