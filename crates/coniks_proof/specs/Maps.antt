-- A list of entries as a finite map: indices of 32 bytes, each once. The order does not matter.
use Rattle.std.specs.Prelude.{◌≡◌, ◌≢◌, ◌<◌, ℕ, List, [], ◌∷◌, length, slice_index}
use Rattle.coniks_proof.specs.Entries.{Entry, IsIn}
use Rattle.coniks_proof.specs.Octets.{Octets}

-- 32 bytes
pub record IsIndex (index : Octets) : Type 0 where
  pub size : length index ≡ 32
  pub range : (q : ℕ) → q < 32 → slice_index index q < 256

-- none of the entries has this index
abbrev pub IsNew : {B : Type 0} → Octets → List (Entry B) → Type 0
IsNew index [] = Unit {0}
IsNew index (e ∷ es) = (index ≢ e.index) × IsNew index es

-- each index is 32 bytes and occurs once
abbrev pub IsMap : {B : Type 0} → List (Entry B) → Type 0
IsMap [] = Unit {0}
IsMap (e ∷ es) = IsIndex e.index × IsNew e.index es × IsMap es

-- the same entries, in whatever order
pub record SameEntries {B : Type 0} (es fs : List (Entry B)) : Type 0 where
  pub there : (e : Entry B) → IsIn e es → IsIn e fs
  pub back : (e : Entry B) → IsIn e fs → IsIn e es
