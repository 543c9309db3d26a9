-- Batches of operations on a registry, and what may be wrong with one.
use Rattle.coniks_proof.specs.declared.values.TheConstants.{MAX_KEY, MAX_NAME}
use Rattle.std.specs.Prelude.{◌≡◌, ℕ, ◌+◌, List, [], ◌∷◌, ◌++◌, length, Bool, true, false, not, ◌&&◌, nat_lt, nat_le, map, Option, Some, None, if◌then◌else◌}
use Rattle.std.specs.List.{list_any}
use Rattle.std.specs.Str.{bytes_eq}
use Rattle.coniks_proof.specs.Entries.{IsIn}
use Rattle.coniks_proof.specs.Octets.{Octets}
use Rattle.coniks_proof.specs.Registry.{Registered, Registry, has_name, overlaid, AreWithin, HaveOwnIndices}

-- registers a name that is absent, or changes the key of one that is present
pub data Kind : Type 0 where
  register : Kind
  change : Kind

pub record Operation : Type 0 where
  pub kind : Kind
  pub name : Octets
  pub key : Octets
  pub opening : Octets

-- what an operation binds
abbrev pub bound_by : Operation → Registered
bound_by op = record { name = op.name; key = op.key; opening = op.opening }

-- the registry after a batch
abbrev pub after : Registry → List Operation → Registry
after registry ops = overlaid registry (map bound_by ops)

-- what may be wrong with an operation
pub data Fault : Type 0 where
  name_length : Fault
  key_length : Fault
  name_twice : Fault
  name_taken : Fault
  name_unknown : Fault
  index_clash : Fault

-- from 1 to `most` bytes
abbrev pub fits : ℕ → Octets → Bool
fits most bytes = nat_lt 0 (length bytes) && nat_le (length bytes) most

-- another name among these has the name's index
abbrev pub clashes : (Octets → Octets) → List Registered → Octets → Bool
clashes index_of bound name = list_any (λ b. bytes_eq (index_of b.name) (index_of name) && not (bytes_eq b.name name)) bound

-- the error of an operation of a kind, on a name that is present or not
abbrev pub kind_fault : Kind → Bool → Option Fault
kind_fault register true = Some name_taken
kind_fault register false = None
kind_fault change true = None
kind_fault change false = Some name_unknown

-- the first that there is
abbrev pub or_else : Option Fault → Option Fault → Option Fault
or_else (Some fault) other = Some fault
or_else None other = other

-- the first error that applies to an operation, after earlier operations of its batch bound these
abbrev pub fault_of : (Octets → Octets) → Registry → List Registered → Operation → Option Fault
fault_of index_of registry earlier op =
    if not (fits MAX_NAME op.name) then Some name_length
    else (if not (fits MAX_KEY op.key) then Some key_length
    else (if has_name earlier op.name then Some name_twice
    else or_else (kind_fault op.kind (has_name registry op.name))
    (if clashes index_of (registry ++ earlier) op.name then Some index_clash else None)))

-- an operation at a place, if it has an error
abbrev pub placed : ℕ → Option Fault → Option (ℕ × Fault) → Option (ℕ × Fault)
placed place (Some fault) later = Some (place, fault)
placed place None later = later

-- the first operation with an error, from a place on, and its first error
abbrev pub fault_from : (Octets → Octets) → Registry → List Registered → ℕ → List Operation → Option (ℕ × Fault)
fault_from index_of registry earlier place [] = None
fault_from index_of registry earlier place (op ∷ ops) =
    placed place (fault_of index_of registry earlier op) (fault_from index_of registry (earlier ++ bound_by op ∷ []) (place + 1) ops)

-- the first operation of a batch with an error, and its first error
abbrev pub first_fault : (Octets → Octets) → Registry → List Operation → Option (ℕ × Fault)
first_fault index_of registry ops = fault_from index_of registry [] 0 ops

-- no name occurs twice
abbrev pub AreOnce : List Registered → Type 0
AreOnce [] = Unit {0}
AreOnce (b ∷ bs) = (has_name bs b.name ≡ false) × AreOnce bs

-- a registered name is absent, and a changed one present
abbrev pub Suits : Kind → Bool → Type 0
Suits register present = present ≡ false
Suits change present = present ≡ true

-- the batch may follow the registry: names and keys are within their limits, no name occurs twice, each registered name is
-- absent and each changed one present, and no two names of registry and batch have one index
pub record MayFollow (index_of : Octets → Octets) (registry : Registry) (ops : List Operation) : Type 0 where
  pub within : AreWithin (map bound_by ops)
  pub once : AreOnce (map bound_by ops)
  pub kinds : (op : Operation) → IsIn op ops → Suits op.kind (has_name registry op.name)
  pub apart : HaveOwnIndices index_of (registry ++ map bound_by ops)
