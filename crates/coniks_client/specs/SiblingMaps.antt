-- The map of a step: bit i is set if sibling i is sent.
use Rattle.std.specs.Prelude.{◌≡◌, ◌<◌, ◌≤◌, ◌⊎◌, ◌+◌, ◌*◌, ◌/◌, ℕ, zero, suc, true, false, if◌then◌else◌, length}
use Rattle.coniks_proof.specs.Bits.{bit_at}
use Rattle.coniks_proof.specs.Octets.{Octets}

-- the number of its bytes, for n siblings
abbrev pub map_size : ℕ → ℕ
map_size n = (n + 7) / 8

-- how many siblings are sent before a place
abbrev pub rank : Octets → ℕ → ℕ
rank map zero = 0
rank map (suc i) = rank map i + (if bit_at map i then 1 else 0)

-- a bit after the first n is not set, and one of the first n is set where the step before has no sibling
abbrev pub FitsAt : Octets → ℕ → ℕ → ℕ → Type 0
FitsAt map n before k = (bit_at map k ≡ true → k < n) × (bit_at map k ≡ false → k < n → k < before)

-- it is; or it is not
abbrev pub FitsNotAt : Octets → ℕ → ℕ → ℕ → Type 0
FitsNotAt map n before k = ((bit_at map k ≡ true) × (n ≤ k)) ⊎ ((bit_at map k ≡ false) × (k < n) × (before ≤ k))

-- a map of n siblings, after a step with this many
abbrev pub IsMap : Octets → ℕ → ℕ → Type 0
IsMap map n before = (k : ℕ) → k < 8 * length map → FitsAt map n before k

-- a bit after the first n is set, or a sibling is neither sent nor in the step before
abbrev pub IsNoMap : Octets → ℕ → ℕ → Type 0
IsNoMap map n before = (k : ℕ) × (k < 8 * length map) × FitsNotAt map n before k
