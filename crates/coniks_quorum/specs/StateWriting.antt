-- When a client has a state, and how its bytes are written.
use Rattle.std.specs.Prelude.{◌≡◌, ◌<◌, ◌≤◌, ◌+◌, ◌^◌, ◌++◌, ℕ, Option, Some, None, length, take}
use Rattle.coniks_proof.specs.Octets.{Octets}
use Rattle.coniks_quorum.specs.StateForms.{AreSized}
use Rattle.coniks_quorum.specs.Saved.{SavedState, body_bytes}

-- fewer than 2^32 stored epochs, alarms, marks and changes, keys below 2^32 bytes, and a name of 1 to 255 bytes
pub record HasState (state : SavedState) : Type 0 where
  pub few : length state.stored < 2 ^ 32
  pub few_alarms : length state.alarms < 2 ^ 32
  pub few_marks : length state.marks < 2 ^ 32
  pub watch : AreSized state.watch

-- the number of its bytes
abbrev pub size_of : SavedState → ℕ
size_of state = length (body_bytes state) + 32

-- the new bytes have a part after the first bytes of the old ones, up to here
pub record HasPut (old : Octets) (at : ℕ) (part new : Octets) (end : ℕ) : Type 0 where
  pub size : end ≡ at + length part
  pub within : end ≤ length old
  pub bytes : take end new ≡ take at old ++ part

-- a part was written there, or there is no room for it
abbrev pub Puts : Octets → ℕ → Octets → Octets → Option ℕ → Type 0
Puts old at part new None = length old < at + length part
Puts old at part new (Some end) = HasPut old at part new end
