-- The history of a directory: its epochs, each with the registry that its batch left.
use Rattle.std.specs.Prelude.{◌≡◌, ◌==◌, ◌<◌, ℕ, List, [], ◌∷◌, map, slice_get, Option, Some, None, option_map}
use Rattle.std.specs.List.{find}
use Rattle.coniks_proof.specs.Octets.{Octets}
use Rattle.coniks_proof.specs.Registry.{HaveOwnIndices, Registry, root_of}
use Rattle.coniks_proof.specs.declared.values.Nonce.{Nonce}

-- an epoch: its number, the version of its entry, the nonce under which its tree is hashed, and its registry
pub record Shown : Type 0 where
  pub t : ℕ
  pub version : ℕ
  pub nonce : Octets
  pub registry : Registry

-- the epochs' numbers
abbrev pub numbers_of : List Shown → List ℕ
numbers_of history = map (λ (s : Shown). s.t) history

-- each number is greater than the one before it, the first one than this
abbrev pub AreRising : ℕ → List ℕ → Type 0
AreRising t [] = Unit {0}
AreRising t (n ∷ ns) = (t < n) × AreRising n ns

-- the last number, or this if there is none
abbrev pub last_number : ℕ → List ℕ → ℕ
last_number t [] = t
last_number t (n ∷ ns) = last_number n ns

-- the latest epoch, or 0 if there is none
abbrev pub latest_epoch : List Shown → ℕ
latest_epoch history = last_number 0 (numbers_of history)

-- the latest registry, empty if there is no epoch
abbrev pub latest_registry : List Shown → Registry
latest_registry [] = []
latest_registry (s ∷ []) = s.registry
latest_registry (s ∷ r ∷ ss) = latest_registry (r ∷ ss)

-- the latest epoch's nonce, or this if there is none
abbrev pub latest_nonce : Octets → List Shown → Octets
latest_nonce nonce [] = nonce
latest_nonce nonce (s ∷ ss) = latest_nonce s.nonce ss

-- the latest epoch's version, or this if there is none
abbrev pub latest_version : ℕ → List Shown → ℕ
latest_version version [] = version
latest_version version (s ∷ ss) = latest_version s.version ss

-- the version of an epoch, with a nonce of its own or without, after one of this version
abbrev pub version_after : Option Octets → ℕ → ℕ
version_after None version = version
version_after (Some new_nonce) version = 2

-- the bytes of a nonce, if there is one
abbrev pub nonce_bytes : Option Nonce → Option Octets
nonce_bytes nonce = option_map (λ (n : Nonce). n.0) nonce

-- the nonce of an epoch, its own or that of the one before
abbrev pub nonce_after : Option Octets → Octets → Octets
nonce_after None nonce = nonce
nonce_after (Some new_nonce) nonce = new_nonce

-- an epoch has version and nonce of the one before, or a nonce of its own and version 2
abbrev pub IsUnder : ℕ → Octets → Shown → Type 0
IsUnder version nonce s = (new_nonce : Option Octets)
    × (s.version ≡ version_after new_nonce version) × (s.nonce ≡ nonce_after new_nonce nonce)

-- so is each epoch after the one before it, the first one after this version and nonce
abbrev pub AreUnder : ℕ → Octets → List Shown → Type 0
AreUnder version nonce [] = Unit {0}
AreUnder version nonce (s ∷ ss) = IsUnder version nonce s × AreUnder s.version s.nonce ss

-- in each epoch's registry different names have different indices
abbrev pub AllHaveOwnIndices : (Octets → Octets) → List Shown → Type 0
AllHaveOwnIndices index_of history = (k : ℕ) (s : Shown) → slice_get history k ≡ Some s → HaveOwnIndices index_of s.registry

-- the epoch of exactly this number
abbrev pub shown_at : List Shown → ℕ → Option Shown
shown_at history t = find (λ (s : Shown). s.t == t) history

-- the root of an epoch
abbrev pub root_at : (Octets → Octets) → (Octets → Octets) → Shown → Octets
root_at hash index_of shown = root_of hash index_of shown.nonce shown.registry
