-- What an honest directory shows an owner.
use Rattle.std.specs.Prelude.{◌≡◌, ◌≢◌, ◌<◌, ◌≤◌, ◌++◌, ℕ, List, [], ◌∷◌, true, Option, drop, if◌then◌else◌, nat_lt}
use Rattle.coniks_proof.specs.Octets.{Octets}
use Rattle.coniks_client.specs.Changes.{AreInOrder, begun, expected, is_accepted, marked, wanted, with_change}
use Rattle.coniks_client.specs.Expecting.{MayExpect}
use Rattle.coniks_client.specs.declared.changes.Change.{Change}

-- the key that a directory shows at an epoch, if it makes each change at one of these epochs
abbrev pub shown_by : Option Octets → List Change → List ℕ → ℕ → Option Octets
shown_by key [] switches epoch = key
shown_by key (change ∷ later) [] epoch = key
shown_by key (change ∷ later) (switch ∷ switches) epoch = if nat_lt epoch switch then key else shown_by (wanted change.key.now) later switches epoch

-- each change was made after its last old epoch, and not after its first new one
abbrev pub AreMade : List Change → List ℕ → Type 0
AreMade [] [] = Unit {0}
AreMade [] (switch ∷ switches) = ⊥
AreMade (change ∷ later) [] = ⊥
AreMade (change ∷ later) (switch ∷ switches) = (change.last_old < switch) × (switch ≤ change.first_new) × AreMade later switches

-- each change has another key than there was before it
abbrev pub AreOther : Option Octets → List Change → Type 0
AreOther key [] = Unit {0}
AreOther key (change ∷ later) = (key ≢ wanted change.key.now) × AreOther (wanted change.key.now) later

-- an owner's changes, and when the directory made them
pub record IsMade (key : Option Octets) (changes : List Change) (switches : List ℕ) : Type 0 where
  pub order : AreInOrder 0 changes
  pub other : AreOther key changes
  pub made : AreMade changes switches

-- What an honest directory shows is accepted at each epoch. Once it is marked, the directory shows the same of each epoch as before,
-- and so it does once a change is taken, up to the latest epoch, and once changes are settled, from the oldest one on. So a client never reports an honest directory as having changed a key.
abbrev pub HonestLaw : Type 0
HonestLaw = (key : Option Octets) (changes : List Change) (switches : List ℕ) (epoch : ℕ) → IsMade key changes switches
    → (is_accepted key changes epoch (shown_by key changes switches epoch) ≡ true)
    × IsMade key (marked key changes epoch (shown_by key changes switches epoch)) switches
    × ((other : ℕ) → shown_by key (marked key changes epoch (shown_by key changes switches epoch)) switches other ≡ shown_by key changes switches other)

abbrev pub HonestChangeLaw : Type 0
HonestChangeLaw = (key : Option Octets) (changes : List Change) (switches : List ℕ) (change : Change) (switch : ℕ) → IsMade key changes switches
    → MayExpect key changes change.last_old (wanted change.key.now) change.first_new → change.last_old < switch → switch ≤ change.first_new
    → IsMade key (with_change changes change) (switches ++ switch ∷ [])
    × ((epoch : ℕ) → epoch ≤ change.last_old → shown_by key (with_change changes change) (switches ++ switch ∷ []) epoch ≡ shown_by key changes switches epoch)

abbrev pub HonestSettleLaw : Type 0
HonestSettleLaw = (key : Option Octets) (changes : List Change) (switches : List ℕ) (oldest : ℕ) → IsMade key changes switches
    → IsMade (expected key changes oldest) (drop (begun changes oldest) changes) (drop (begun changes oldest) switches)
    × ((epoch : ℕ) → oldest ≤ epoch
    → shown_by (expected key changes oldest) (drop (begun changes oldest) changes) (drop (begun changes oldest) switches) epoch ≡ shown_by key changes switches epoch)
