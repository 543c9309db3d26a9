-- What a state is worth to the client that is read from it.
use Rattle.std.specs.Prelude.{◌≡◌, Some, map}
use Rattle.std.specs.Option.{option_map}
use Rattle.coniks_proof.specs.Octets.{Octets}
use Rattle.coniks_client.specs.Changes.{AreInOrder, expected, wanted}
use Rattle.coniks_client.specs.Honest.{AreOther}
use Rattle.coniks_client.specs.Owner.{AreDecided, IsBacked, IsWatched, Scheme}
use Rattle.coniks_client.specs.declared.watching.Watch.{Watch}
use Rattle.coniks_quorum.specs.StateForms.{AreBytesOf, IsFormed, IsStateOf}
use Rattle.coniks_quorum.specs.Saved.{SavedState, SavedWatch, alarm_from, stored_from, mark_from, saved_change, saved_state}
use Rattle.coniks_quorum.specs.Says.{Says}
use Rattle.coniks_quorum.specs.declared.states.client.Client.{Client}
use Rattle.coniks_quorum.specs.declared.states.state.State.{State}

-- Bytes are those of one state at most: of one policy, the same stored epochs and alarms, one trust and the same marks, and the same watch
-- and changes.
abbrev pub StateLaw : Type 0
StateLaw = (hash : Octets → Octets) (a b : SavedState) (bytes : Octets) → AreBytesOf hash a bytes → AreBytesOf hash b bytes → a ≡ b

-- The state of a client, of which the bytes were written, is a state of its policy, if its numbers, alarms and changes have the right
-- form. So `read` returns its parts.
abbrev pub BackLaw : Type 0
BackLaw = (hash : Octets → Octets) (client : Client) (bytes : Octets) → AreBytesOf hash (saved_state client) bytes → IsFormed (saved_state client)
    → IsStateOf hash client.policy.now (saved_state client) bytes

-- a client that is made of the parts of a state that was read: the stored epochs, the alarms, the marks and the changes are copied
pub record IsMadeOf (client : Client) (state : State) (saved : SavedState) : Type 0 where
  pub policy : client.policy.now ≡ saved.policy
  pub stored : client.stored.now ≡ map stored_from state.stored.now
  pub alarms : client.alarms.now ≡ map alarm_from state.alarms.now
  pub trust : client.trust.now ≡ state.trust.now
  pub marks : client.marks.now ≡ map mark_from state.marks.now
  pub watch : client.watch ≡ option_map (λ watched. watched.watch) state.watch
  pub changes : (watch : SavedWatch) → saved.watch ≡ Some watch → map saved_change client.changes.now ≡ watch.changes

-- It has this state.
abbrev pub PartsLaw : Type 0
PartsLaw = (client : Client) (state : State) (saved : SavedState) → Says state saved → IsMadeOf client state saved → saved_state client ≡ saved

-- The changes of a client that has a state's form are in order, each one has another key than the one before, and no change is open
-- at an epoch that was seen as the same.
abbrev pub FormLaw : Type 0
FormLaw = (client : Client) (watch : Watch) → client.watch ≡ Some watch → IsFormed (saved_state client)
    → AreInOrder 0 client.changes.now × AreOther (wanted watch.key.now) client.changes.now × AreDecided client.changes.now client.stored.now

-- So it goes on with the owner law's premises, but for the proofs that the state can't show: a state is its owner's word for them.
abbrev pub WatchedLaw : Type 0
WatchedLaw = (hash : Octets → Octets) (scheme : Scheme) (client : Client) (watch : Watch) → client.watch ≡ Some watch → IsFormed (saved_state client)
    → IsBacked hash scheme watch.name.now (expected (wanted watch.key.now) client.changes.now) client.stored.now
    → IsWatched hash scheme watch.name.now (wanted watch.key.now) client.changes.now client.stored.now
