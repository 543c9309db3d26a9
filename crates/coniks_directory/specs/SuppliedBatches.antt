-- Batches whose operations come with the indices of their names.
use Rattle.std.specs.Prelude.{◌≡◌, ◌<◌, ◌≤◌, ℕ, ◌+◌, List, [], ◌∷◌, ◌++◌, length, map, take, Bool, true, false, not, ◌&&◌, nat_lt, nat_le, Option, Some, None, if◌then◌else◌}
use Rattle.std.specs.Cmp.Lexicographic.{slice_cmp}
use Rattle.std.specs.BTreeMap.{insert_entry}
use Rattle.std.specs.Ordering.{nat_cmp}
use Rattle.std.specs.Str.{bytes_eq}
use Rattle.coniks_proof.specs.Batches.{Fault, Operation, bound_by, fault_of, first_fault, index_clash}
use Rattle.coniks_proof.specs.Octets.{Octets}
use Rattle.coniks_proof.specs.Registry.{Registered, Registry, has_name}
use Rattle.coniks_proof.specs.declared.values.Index.{Index}
use Rattle.coniks_proof.specs.declared.values.TheConstants.{MAX_OPERATIONS}
use Rattle.coniks_tree.specs.declared.table.Record.{Record}
use Rattle.coniks_directory.specs.Batches.{fault_is, operation_of}
use Rattle.coniks_directory.specs.History.{latest_registry}
use Rattle.coniks_directory.specs.State.{State, history_of}
use Rattle.coniks_directory.specs.Supplied.{AgreeOn, Supplied, is_supplied, supplied_index}
use Rattle.coniks_directory.specs.Updates.{IsUpdateOf, base_of}
use Rattle.coniks_directory.specs.declared.batch.BatchFault.TheVariants.{Workers, Depth, BatchTooLong, At, OutOfMemory}
use Rattle.coniks_directory.specs.declared.batch.Op.{Op}
use Rattle.coniks_directory.specs.declared.supplied_batch.SuppliedBatchFault.{SuppliedBatchFault}
use Rattle.coniks_directory.specs.declared.supplied_batch.OwnedBindings.{OwnedBindings}
use Rattle.coniks_directory.specs.declared.supplied_batch.SuppliedBatchFault.TheVariants.{Batch, OtherIndex}
use Rattle.coniks_directory.specs.declared.update.InstallFault.{InstallFault}
use Rattle.coniks_directory.specs.declared.update.InstallFault.TheVariants as install
use Rattle.coniks_directory.specs.declared.update.Prepared.{Prepared}

-- an operation, and the index of its name
pub record Indexed : Type 0 where
  pub op : Operation
  pub index : Octets

-- operations, each with the index at its place
abbrev pub indexed : List Op → List Index → List Indexed
indexed [] indices = []
indexed (op ∷ ops) [] = []
indexed (op ∷ ops) (index ∷ indices) = record { op = operation_of op; index = index.0 } ∷ indexed ops indices

-- the operations alone
abbrev pub operations_of : List Indexed → List Operation
operations_of batch = map (λ x. x.op) batch

-- the names, each with the index that comes with it
abbrev pub named_in : List Indexed → List Supplied
named_in batch = map (λ x. (x.op.name, x.index)) batch

-- the index of a name among these, or the one that the function gives it
abbrev pub given_index : List Supplied → (Octets → Octets) → Octets → Octets
given_index named index_of name = if is_supplied named name then supplied_index named name else index_of name

-- the indices that a batch is checked by: a registered name keeps its index, and another name has the one that comes with it
abbrev pub index_in : (Octets → Octets) → Registry → List Indexed → Octets → Octets
index_in index_of registry batch name = if has_name registry name then index_of name else given_index (named_in batch) index_of name

-- the indices that bindings are checked by after others: a bound name keeps its index, and another name has the first that comes with it
abbrev pub binding_index : (Octets → Octets) → List Registered → OwnedBindings → Octets → Octets
binding_index index_of bound batch = index_in index_of bound (indexed batch.bindings.items batch.indices.items)

-- of the names of operations, those that aren't registered, each with the index that comes first
pub record IsFresh (registry : Registry) (fresh named : List Supplied) : Type 0 where
  pub none : (name : Octets) → has_name registry name ≡ true → is_supplied fresh name ≡ false
  pub names : (name : Octets) → has_name registry name ≡ false → is_supplied fresh name ≡ is_supplied named name
  pub indices : (name : Octets) → has_name registry name ≡ false → supplied_index fresh name ≡ supplied_index named name

-- the name of the operation is registered with another index
abbrev pub has_other : (Octets → Octets) → Registry → Indexed → Bool
has_other index_of registry x = has_name registry x.op.name && not (bytes_eq (index_of x.op.name) x.index)

-- what may be wrong with an operation that comes with an index
pub data SuppliedFault : Type 0 where
  of_operation : Fault → SuppliedFault
  other_index : SuppliedFault

-- another index comes after each other error but the clash of indices
abbrev pub or_other : Bool → Option Fault → Option SuppliedFault
or_other true None = Some other_index
or_other true (Some index_clash) = Some other_index
or_other _ None = None
or_other _ (Some fault) = Some (of_operation fault)

-- an operation at a place, if it has an error
abbrev pub placed_fault : ℕ → Option SuppliedFault → Option (ℕ × SuppliedFault) → Option (ℕ × SuppliedFault)
placed_fault place (Some fault) later = Some (place, fault)
placed_fault place None later = later

-- the errors of operations with indices; a registered name has the index that the first function gives it
module _ (index_of : Octets → Octets) (registry : Registry) where
  -- the first operation with an error, from a place on, and its first error
  abbrev pub supplied_fault_from : (Octets → Octets) → List Registered → ℕ → List Indexed → Option (ℕ × SuppliedFault)
  supplied_fault_from index earlier place [] = None
  supplied_fault_from index earlier place (x ∷ xs) =
      placed_fault place (or_other (has_other index_of registry x) (fault_of index registry earlier x.op))
      (supplied_fault_from index (earlier ++ bound_by x.op ∷ []) (place + 1) xs)

  -- the first operation of a batch with an error, and its first error
  abbrev pub supplied_fault : List Indexed → Option (ℕ × SuppliedFault)
  supplied_fault batch = supplied_fault_from (index_in index_of registry batch) [] 0 batch

  -- the place of the first operation whose name is registered with another index, from a place on
  abbrev pub other_from : ℕ → List Indexed → Option ℕ
  other_from place [] = None
  other_from place (x ∷ xs) = if has_other index_of registry x then Some place else other_from (place + 1) xs

-- the error of the operation at a place, unless another index comes before it at a second place
abbrev pub earlier_of : ℕ → Fault → ℕ → ℕ × SuppliedFault
earlier_of place index_clash other = if nat_lt place other then (place, of_operation index_clash) else (other, other_index)
earlier_of place fault other = if nat_le place other then (place, of_operation fault) else (other, other_index)

-- the first of an error of an operation and another index, each with its place
abbrev pub earliest : Option (ℕ × Fault) → Option ℕ → Option (ℕ × SuppliedFault)
earliest None None = None
earliest (Some at) None = Some (at.0, of_operation at.1)
earliest None (Some other) = Some (other, other_index)
earliest (Some at) (Some other) = Some (earlier_of at.0 at.1 other)

-- the place and the error of the operation that an error names
abbrev pub supplied_fault_is : SuppliedBatchFault → Option (ℕ × SuppliedFault)
supplied_fault_is (Batch (At position fault)) = Some (position, of_operation (fault_is fault))
supplied_fault_is (Batch Workers) = None
supplied_fault_is (Batch Depth) = None
supplied_fault_is (Batch BatchTooLong) = None
supplied_fault_is (Batch OutOfMemory) = None
supplied_fault_is (OtherIndex position) = Some (position, other_index)

-- an error is the first of those of the operations and of another index at a place, or an allocation failed
abbrev pub IsEarliest : (Octets → Octets) → Registry → List Operation → ℕ → SuppliedBatchFault → Type 0
IsEarliest index_of registry ops place (Batch OutOfMemory) = Unit {0}
IsEarliest index_of registry ops place (Batch Workers) = ⊥
IsEarliest index_of registry ops place (Batch Depth) = ⊥
IsEarliest index_of registry ops place (Batch BatchTooLong) = ⊥
IsEarliest index_of registry ops place (Batch (At position fault)) = earliest
    (first_fault index_of registry ops) (Some place) ≡ Some (position, of_operation (fault_is fault))
IsEarliest index_of registry ops place (OtherIndex position) = earliest
    (first_fault index_of registry ops) (Some place) ≡ Some (position, other_index)

-- the batch's length is within its limit
abbrev pub IsWithin : List Indexed → Type 0
IsWithin batch = length batch ≤ MAX_OPERATIONS

-- why such a batch isn't accepted: the first error that applies, in the order of the type, or an allocation failed
abbrev pub IsSuppliedFault : (Octets → Octets) → Registry → List Indexed → SuppliedBatchFault → Type 0
IsSuppliedFault index_of registry batch (Batch Workers) = ⊥
IsSuppliedFault index_of registry batch (Batch Depth) = ⊥
IsSuppliedFault index_of registry batch (Batch BatchTooLong) = MAX_OPERATIONS < length batch
IsSuppliedFault index_of registry batch (Batch (At position fault)) = IsWithin batch
    × (supplied_fault index_of registry batch ≡ Some (position, of_operation (fault_is fault)))
IsSuppliedFault index_of registry batch (Batch OutOfMemory) = IsWithin batch
IsSuppliedFault index_of registry batch (OtherIndex position) = IsWithin batch
    × (supplied_fault index_of registry batch ≡ Some (position, other_index))

-- the indices with this one for a name, in the order of the names, each name once
abbrev pub put_index : List Supplied → Octets → Octets → List Supplied
put_index supplied name index = insert_entry (slice_cmp nat_cmp) supplied name index

-- and with these, one after the other
abbrev pub put_indices : List Supplied → List Supplied → List Supplied
put_indices supplied [] = supplied
put_indices supplied (x ∷ xs) = put_indices (put_index supplied x.0 x.1) xs

-- the names of an update's operations, with their indices
abbrev pub indices_in : List Record → List Supplied
indices_in records = map (λ (r : Record). (r.binding.name, r.index.0)) records

abbrev pub indices_of : Prepared → List Supplied
indices_of update = indices_in update.records.items

-- the names of the operations, with their indices in the batch
abbrev pub indices_by : (Octets → Octets) → List Operation → List Supplied
indices_by index_of ops = map (λ (op : Operation). (op.name, index_of op.name)) ops

-- what a refused install leaves of a source: the indices that it had, with none of the update's, or with those of its first names if an
-- allocation failed
abbrev pub LeavesIndices : List Supplied → List Supplied → List Supplied → InstallFault → Type 0
LeavesIndices given old new (install.Stale latest) = new ≡ old
LeavesIndices given old new (install.EpochNotLater latest) = new ≡ old
LeavesIndices given old new install.BoardFull = new ≡ old
LeavesIndices given old new install.OutOfMemory = (n : ℕ) × (new ≡ put_indices old (take n given))
LeavesIndices given old new install.SignerRefused = new ≡ old

-- each of the names has the index that the function gives it
abbrev pub AreOf : (Octets → Octets) → List Supplied → Type 0
AreOf index_of [] = Unit {0}
AreOf index_of (x ∷ xs) = (x.1 ≡ index_of x.0) × AreOf index_of xs

-- the update holds the indices of its names, and by a function that gives these it was prepared from a directory in this state or an
-- earlier one; unless an epoch was installed since then, the function gives each registered name its index
pub record IsSuppliedUpdate (hash index_of : Octets → Octets) (s : State) (p : Prepared) (index : Octets → Octets) : Type 0 where
  pub agree : base_of p ≡ length s.epochs → AgreeOn index_of index (latest_registry (history_of s))
  pub update : IsUpdateOf hash index s p
  pub stored : AreOf index (indices_of p)
