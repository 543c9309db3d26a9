-- Registries: what each registered name is bound to, and the map that the tree stores for it.
use Rattle.coniks_proof.specs.declared.values.TheConstants.{MAX_KEY, MAX_NAME}
use Rattle.std.specs.Prelude.{◌≡◌, ◌<◌, ◌≤◌, ℕ, List, [], ◌∷◌, ◌++◌, length, Bool, true, false, not, map, filter, Option, option_map}
use Rattle.std.specs.List.{list_any, find}
use Rattle.std.specs.Str.{bytes_eq}
use Rattle.coniks_proof.specs.Preimages.{commitment_preimage}
use Rattle.coniks_proof.specs.Entries.{Entry}
use Rattle.coniks_proof.specs.Hashing.{hashing}
use Rattle.coniks_proof.specs.Octets.{Octets}
use Rattle.coniks_proof.specs.Tree.{root}

-- a name, the key that it is bound to, and the opening of the commitment to both
pub record Registered : Type 0 where
  pub name : Octets
  pub key : Octets
  pub opening : Octets

-- each name once, in an order that does not matter
abbrev pub Registry : Type 0
Registry = List Registered

-- the registry binds the name
abbrev pub has_name : Registry → Octets → Bool
has_name registry name = list_any (λ b. bytes_eq b.name name) registry

-- what the registry binds the name to
abbrev pub bound_to : Registry → Octets → Option Registered
bound_to registry name = find (λ b. bytes_eq b.name name) registry

-- the key that the registry binds the name to
abbrev pub key_of : Registry → Octets → Option Octets
key_of registry name = option_map (λ b. b.key) (bound_to registry name)

-- the registry with this binding in place of what its name had
abbrev pub rebound : Registry → Registered → Registry
rebound registry b = filter (λ c. not (bytes_eq c.name b.name)) registry ++ b ∷ []

-- the registry overwritten by these bindings, one after the other
abbrev pub overlaid : Registry → List Registered → Registry
overlaid registry [] = registry
overlaid registry (b ∷ bs) = overlaid (rebound registry b) bs

-- the commitment to a name and its key
abbrev pub commitment_to : (Octets → Octets) → Registered → Octets
commitment_to hash b = hash (commitment_preimage b.opening b.name b.key)

-- the entry of a binding; `index_of` gives each name its index
abbrev pub entry_of : (Octets → Octets) → (Octets → Octets) → Registered → Entry Registered
entry_of hash index_of b = record { index = index_of b.name; commitment = commitment_to hash b; behind = b }

-- the map that the tree stores for a registry
abbrev pub entries_of : (Octets → Octets) → (Octets → Octets) → Registry → List (Entry Registered)
entries_of hash index_of registry = map (entry_of hash index_of) registry

-- the root of a registry
abbrev pub root_of : (Octets → Octets) → (Octets → Octets) → Octets → Registry → Octets
root_of hash index_of nonce registry = root (hashing hash nonce) (entries_of hash index_of registry)

-- neither empty nor longer than `most`
abbrev pub IsLength : ℕ → Octets → Type 0
IsLength most bytes = (0 < length bytes) × (length bytes ≤ most)

-- names and keys are within their limits
abbrev pub AreWithin : Registry → Type 0
AreWithin [] = Unit {0}
AreWithin (b ∷ bs) = IsLength MAX_NAME b.name × IsLength MAX_KEY b.key × AreWithin bs

-- no name of the registry has the index
abbrev pub IsFree : (Octets → Octets) → Registry → Octets → Type 0
IsFree index_of registry index = (name : Octets) → index_of name ≡ index → has_name registry name ≡ false

-- no two names of the registry have one index
abbrev pub HaveOwnIndices : (Octets → Octets) → Registry → Type 0
HaveOwnIndices index_of registry = (x y : Octets) → has_name registry x ≡ true
    → has_name registry y ≡ true → index_of x ≡ index_of y → x ≡ y
