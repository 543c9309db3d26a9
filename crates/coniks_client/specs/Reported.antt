-- What stays of a verified epoch, whatever is verified, expected and settled later.
use Rattle.std.specs.Prelude.{◌≡◌, ◌≤◌, ◌↔◌, ℕ, List, [], ◌∷◌, true, Option, drop}
use Rattle.coniks_proof.specs.Octets.{Octets}
use Rattle.coniks_client.specs.Changes.{AreInOrder, IsDecided, begun, expected, is_accepted, key_after, marked, wanted, with_change}
use Rattle.coniks_client.specs.Expecting.{MayExpect}
use Rattle.coniks_client.specs.declared.changes.Change.{Change}

-- what a client does with the changes: it marks an answer of an epoch, takes a change after the latest epoch, or drops those
-- that no epoch from the oldest one on needs
pub data Event : Type 0 where
  Marks : (epoch : ℕ) → (answer : Option Octets) → Event
  Expects : Change → Event
  Settles : (oldest : ℕ) → Event

-- the first key after an event, and the changes
abbrev pub key_by : Option Octets → List Change → Event → Option Octets
key_by key changes (Marks epoch answer) = key
key_by key changes (Expects change) = key
key_by key changes (Settles oldest) = expected key changes oldest

abbrev pub changes_by : Option Octets → List Change → Event → List Change
changes_by key changes (Marks epoch answer) = marked key changes epoch answer
changes_by key changes (Expects change) = with_change changes change
changes_by key changes (Settles oldest) = drop (begun changes oldest) changes

-- an epoch is not later than the latest one when a change is taken, and not dropped when changes are
abbrev pub IsStoredBy : Option Octets → List Change → ℕ → Event → Type 0
IsStoredBy key changes epoch (Marks other answer) = Unit {0}
IsStoredBy key changes epoch (Expects change) = (epoch ≤ change.last_old) × MayExpect key changes change.last_old (wanted change.key.now) change.first_new
IsStoredBy key changes epoch (Settles oldest) = oldest ≤ epoch

-- so it is through events
abbrev pub IsStoredThrough : Option Octets → List Change → ℕ → List Event → Type 0
IsStoredThrough key changes epoch [] = Unit {0}
IsStoredThrough key changes epoch (event ∷ later) = IsStoredBy key changes epoch event × IsStoredThrough (key_by key changes event) (changes_by key changes event) epoch later

-- what is expected of an epoch after events
abbrev pub expected_after : Option Octets → List Change → ℕ → List Event → Option Octets
expected_after key changes epoch [] = expected key changes epoch
expected_after key changes epoch (event ∷ later) = expected_after (key_by key changes event) (changes_by key changes event) epoch later

-- An epoch showed an answer and was seen as the same. Then this answer is what is expected of the epoch at any later time, whatever
-- was verified, expected and settled since.
abbrev pub ReportedLaw : Type 0
ReportedLaw = (key : Option Octets) (changes : List Change) (epoch : ℕ) (answer : Option Octets) (later : List Event)
    → AreInOrder 0 changes → is_accepted key changes epoch answer ≡ true → IsStoredThrough key changes epoch (Marks epoch answer ∷ later)
    → expected_after key changes epoch (Marks epoch answer ∷ later) ≡ answer

-- An owner takes a change. Then its new key is what is expected of each epoch from its first new one on, up to the next change.
abbrev pub WindowLaw : Type 0
WindowLaw = (key : Option Octets) (changes : List Change) (change : Change) (epoch : ℕ) (later : List Event)
    → AreInOrder 0 changes → MayExpect key changes change.last_old (wanted change.key.now) change.first_new → change.first_new ≤ epoch
    → IsStoredThrough key (with_change changes change) epoch later
    → expected_after key (with_change changes change) epoch later ≡ wanted change.key.now

-- What is expected of the epochs, one after another, are the first key and the keys of the changes, in their order.
abbrev pub TimelineLaw : Type 0
TimelineLaw = (key : Option Octets) (changes : List Change) (epoch later : ℕ) → AreInOrder 0 changes → epoch ≤ later
    → (expected key changes epoch ≡ key_after key changes (begun changes epoch)) × (begun changes epoch ≤ begun changes later)

-- At a verified epoch, exactly what is expected of it is accepted again.
abbrev pub AgainLaw : Type 0
AgainLaw = (key : Option Octets) (changes : List Change) (epoch : ℕ) (answer : Option Octets) → AreInOrder 0 changes → IsDecided changes epoch
    → (is_accepted key changes epoch answer ≡ true) ↔ (answer ≡ expected key changes epoch)
