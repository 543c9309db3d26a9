-- A map overwritten by changes, and the order of changes.
use Rattle.std.specs.Prelude.{◌≡◌, ◌<◌, ◌≤◌, ℕ, zero, suc, ◌-◌, List, [], ◌∷◌, ◌++◌, length, slice_index, Bool, true, false, not, filter}
use Rattle.std.specs.List.{list_any}
use Rattle.std.specs.Str.{bytes_eq}
use Rattle.coniks_proof.specs.Entries.{Entry, half}
use Rattle.coniks_proof.specs.Maps.{IsIndex}
use Rattle.coniks_proof.specs.Octets.{Octets}

-- an entry has this index
abbrev pub has_index : {B : Type 0} → List (Entry B) → Octets → Bool
has_index entries index = list_any (λ e. bytes_eq e.index index) entries

-- the map with these changes: what they say, and the other entries as they were
unfoldable pub overwritten : {B : Type 0} → List (Entry B) → List (Entry B) → List (Entry B)
overwritten entries changes = changes ++ filter (λ e. not (has_index changes e.index)) entries

-- the entries part within this many bits from a level on
unfoldable pub ApartWithin : {B : Type 0} → ℕ → ℕ → List (Entry B) → Type 0
ApartWithin zero level entries = length entries ≤ 1
ApartWithin (suc height) level entries = ApartWithin height (suc level) (half false level entries)
    × ApartWithin height (suc level) (half true level entries)

-- no two entries, all under one prefix of `level` bits, have the same bits
unfoldable pub AreApart : {B : Type 0} → ℕ → List (Entry B) → Type 0
AreApart level entries = ApartWithin (256 - level) level entries

-- at each level the entries that go left come first
unfoldable pub InOrderWithin : {B : Type 0} → ℕ → ℕ → List (Entry B) → Type 0
InOrderWithin zero level entries = length entries ≤ 1
InOrderWithin (suc height) level entries =
    (entries ≡ half false level entries ++ half true level entries)
    × InOrderWithin height (suc level) (half false level entries) × InOrderWithin height (suc level) (half true level entries)

-- the entries, all under one prefix of `level` bits, are in the order of their bits
unfoldable pub AreInOrder : {B : Type 0} → ℕ → List (Entry B) → Type 0
AreInOrder level entries = InOrderWithin (256 - level) level entries

-- x is before y: at the first byte that differs, x has the smaller one
pub record IsBefore (x y : Octets) : Type 0 where
  pub place : ℕ
  pub within : place < 32
  pub same : (q : ℕ) → q < place → slice_index x q ≡ slice_index y q
  pub smaller : slice_index x place < slice_index y place

-- each of the entries comes after the index
abbrev pub AllAfter : {B : Type 0} → Octets → List (Entry B) → Type 0
AllAfter index [] = Unit {0}
AllAfter index (e ∷ es) = IsBefore index e.index × AllAfter index es

-- the entries are in increasing order of index
abbrev pub AreIncreasing : {B : Type 0} → List (Entry B) → Type 0
AreIncreasing [] = Unit {0}
AreIncreasing (e ∷ es) = IsIndex e.index × AllAfter e.index es × AreIncreasing es
