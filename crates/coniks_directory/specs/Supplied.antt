-- Indices that are supplied after `open`. Two functions of indices that agree on the registered names say the same of a directory.
use Rattle.std.specs.Prelude.{◌≡◌, ◌≢◌, ℕ, List, [], ◌∷◌, Bool, true, false, None, if◌then◌else◌, is_some}
use Rattle.std.specs.List.{list_any}
use Rattle.std.specs.Str.{bytes_eq}
use Rattle.coniks_proof.specs.Batches.{fits}
use Rattle.coniks_proof.specs.Octets.{Octets}
use Rattle.coniks_proof.specs.Preimages.{zeros}
use Rattle.coniks_proof.specs.Registry.{Registry, has_name}
use Rattle.coniks_proof.specs.declared.values.TheConstants.{MAX_NAME}
use Rattle.coniks_directory.specs.History.{Shown, shown_at}
use Rattle.coniks_directory.specs.declared.lookup.LookupAtFault.{LookupAtFault}
use Rattle.coniks_directory.specs.declared.lookup.LookupAtFault.TheVariants as at
use Rattle.coniks_directory.specs.declared.supplied.SupplyFault.{SupplyFault}
use Rattle.coniks_directory.specs.declared.supplied.SupplyFault.TheVariants.{NameLength, OtherIndex, OutOfMemory}

-- both give each name of the registry the same index
abbrev pub AgreeOn : (Octets → Octets) → (Octets → Octets) → Registry → Type 0
AgreeOn index_of also registry = (name : Octets) → has_name registry name ≡ true → index_of name ≡ also name

-- the second gives the name this index, and each other name the index that the first gives it
pub record IsSupplied (index_of : Octets → Octets) (name index : Octets) (also : Octets → Octets) : Type 0 where
  pub here : also name ≡ index
  pub others : (other : Octets) → other ≢ name → also other ≡ index_of other

-- the name has a name's length, and isn't registered with another index
pub record MaySupply (index_of : Octets → Octets) (registry : Registry) (name index : Octets) : Type 0 where
  pub sized : fits MAX_NAME name ≡ true
  pub retained : has_name registry name ≡ true → index_of name ≡ index

-- the name is registered with another index
abbrev pub HasOtherIndex : (Octets → Octets) → Registry → Octets → Octets → Type 0
HasOtherIndex index_of registry name index = (has_name registry name ≡ true) × (index_of name ≢ index)

-- why an index is refused: the first error that applies, in the order of the type
abbrev pub IsSupplyFault : (Octets → Octets) → Registry → Octets → Octets → SupplyFault → Type 0
IsSupplyFault index_of registry name index NameLength = fits MAX_NAME name ≡ false
IsSupplyFault index_of registry name index OtherIndex = (fits MAX_NAME name ≡ true) × HasOtherIndex index_of registry name index
IsSupplyFault index_of registry name index OutOfMemory = MaySupply index_of registry name index

-- why a lookup of a name at this index is refused: the first error that applies, in the order of the type
abbrev pub IsMissedAt : (Octets → Octets) → List Shown → Registry → ℕ → Octets → Octets → LookupAtFault → Type 0
IsMissedAt index_of history registry t name index at.UnknownEpoch = shown_at history t ≡ None
IsMissedAt index_of history registry t name index at.NameLength = (is_some (shown_at history t) ≡ true) × (fits MAX_NAME name ≡ false)
IsMissedAt index_of history registry t name index at.OtherIndex = (is_some (shown_at history t) ≡ true)
    × (fits MAX_NAME name ≡ true) × HasOtherIndex index_of registry name index
IsMissedAt index_of history registry t name index at.OutOfMemory = (is_some (shown_at history t) ≡ true)
    × MaySupply index_of registry name index

-- a name, and the index that was supplied for it
abbrev pub Supplied : Type 0
Supplied = Octets × Octets

-- the index that was supplied for a name, or 32 zero bytes if none was
abbrev pub supplied_index : List Supplied → Octets → Octets
supplied_index [] name = zeros
supplied_index (e ∷ es) name = if bytes_eq name e.0 then e.1 else supplied_index es name

-- an index was supplied for the name
abbrev pub is_supplied : List Supplied → Octets → Bool
is_supplied supplied name = list_any (λ (e : Supplied). bytes_eq name e.0) supplied
