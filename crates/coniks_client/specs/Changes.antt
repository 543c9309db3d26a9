-- The changes of a watched key that its owner made, in their order.
use Rattle.std.specs.Prelude.{◌≡◌, ◌<◌, ◌≤◌, ◌⊎◌, ◌&&◌, ◌||◌, ◌++◌, ℕ, zero, suc, List, [], ◌∷◌, Bool, true, false, Option, Some, None, if◌then◌else◌, nat_lt, nat_le, slice_get}
use Rattle.std.specs.Str.{bytes_eq}
use Rattle.coniks_proof.specs.Octets.{Octets}
use Rattle.coniks_client.specs.declared.changes.Change.{Change}

-- the key of these bytes, or none if there are none
abbrev pub wanted : Octets → Option Octets
wanted [] = None
wanted (b ∷ bytes) = Some (b ∷ bytes)

-- an answer is the key, or none if there is none
abbrev pub same_key : Option Octets → Option Octets → Bool
same_key None None = true
same_key (Some key) None = false
same_key None (Some want) = false
same_key (Some key) (Some want) = bytes_eq key want

-- the key that an epoch is to show: the first one, up to the first change's first new epoch; from there on that of the changes after it
abbrev pub expected : Option Octets → List Change → ℕ → Option Octets
expected key [] epoch = key
expected key (change ∷ later) epoch = if nat_lt epoch change.first_new then key else expected (wanted change.key.now) later epoch

-- the number of changes whose first new epoch is this one or an earlier one
abbrev pub begun : List Change → ℕ → ℕ
begun [] epoch = 0
begun (change ∷ later) epoch = if nat_lt epoch change.first_new then 0 else suc (begun later epoch)

-- the key after the first n changes
abbrev pub key_after : Option Octets → List Change → ℕ → Option Octets
key_after key changes zero = key
key_after key [] (suc n) = key
key_after key (change ∷ later) (suc n) = key_after (wanted change.key.now) later n

-- an epoch may show the key, or the new key of the next change, if no epoch at or after it showed the key before
abbrev pub may_show : Option Octets → Option Change → ℕ → Option Octets → Bool
may_show key None epoch answer = same_key answer key
may_show key (Some next) epoch answer = same_key answer key || (nat_lt next.last_old epoch && same_key answer (wanted next.key.now))

-- an epoch may show an answer
abbrev pub is_accepted : Option Octets → List Change → ℕ → Option Octets → Bool
is_accepted key changes epoch answer = may_show (expected key changes epoch) (slice_get changes (begun changes epoch)) epoch answer

-- the next change, once an epoch before its first new one showed an answer
abbrev pub narrowed : Option Octets → Change → ℕ → Option Octets → Change
narrowed key next epoch answer =
    if nat_le epoch next.last_old then next else (if same_key answer key then record next { last_old = epoch } else (if same_key answer (wanted next.key.now) then record next { first_new = epoch } else next))

-- the changes, once an epoch showed an answer
abbrev pub marked : Option Octets → List Change → ℕ → Option Octets → List Change
marked key [] epoch answer = []
marked key (change ∷ later) epoch answer =
    if nat_lt epoch change.first_new then narrowed key change epoch answer ∷ later else change ∷ marked (wanted change.key.now) later epoch answer

-- a change more
abbrev pub with_change : List Change → Change → List Change
with_change changes change = changes ++ change ∷ []

-- no change is open at an epoch: each one has its last old epoch there or later, or its first new one there or earlier
abbrev pub IsDecided : List Change → ℕ → Type 0
IsDecided [] epoch = Unit {0}
IsDecided (change ∷ later) epoch = (epoch ≤ change.last_old) ⊎ ((change.first_new ≤ epoch) × IsDecided later epoch)

-- each change has its last old epoch before its first new one, and at or after the first new one of the change before it
abbrev pub AreInOrder : ℕ → List Change → Type 0
AreInOrder from [] = Unit {0}
AreInOrder from (change ∷ later) = (from ≤ change.last_old) × (change.last_old < change.first_new) × AreInOrder change.first_new later

-- other changes expect the same of each decided epoch, and it stays decided
abbrev pub Keeps : Option Octets → List Change → Option Octets → List Change → ℕ → Type 0
Keeps key changes key' changes' epoch = IsDecided changes epoch
    → IsDecided changes' epoch × (expected key' changes' epoch ≡ expected key changes epoch)
