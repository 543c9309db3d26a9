-- The checked operations of a batch: their records, found by index.
use Rattle.std.specs.Prelude.{◌≡◌, ◌+◌, ◌∷◌, ◌++◌, ℕ, List, [], length, map, take, drop, slice_get, Option, Some}
use Rattle.std.specs.Ordering.{nat_cmp}
use Rattle.std.specs.Cmp.Lexicographic.{slice_cmp}
use Rattle.std.specs.BTreeMap.{BTreeMap, btree_map_len, get, IsOrdered}
use Rattle.coniks_proof.specs.Changes.{AreIncreasing}
use Rattle.coniks_proof.specs.Entries.{IsIn}
use Rattle.coniks_proof.specs.Maps.{IsIndex, IsMap}
use Rattle.coniks_proof.specs.Registry.{Registry, Registered, commitment_to, entries_of, IsLength}
use Rattle.coniks_proof.specs.Batches.{Operation, bound_by, fault_from}
use Rattle.coniks_proof.specs.Octets.{Octets}
use Rattle.coniks_proof.specs.declared.values.TheConstants.{MAX_KEY, MAX_NAME}
use Rattle.coniks_tree.specs.Table.{Numbered, entry_of_record}
use Rattle.coniks_tree.specs.declared.table.Record.{Record}
use Rattle.coniks_directory.specs.Batches.{fault_is}
use Rattle.coniks_directory.specs.State.{registered_of}
use Rattle.coniks_directory.specs.declared.batch.BatchFault.{BatchFault}
use Rattle.coniks_directory.specs.declared.pending.PendingRecords.{PendingRecords}
use Rattle.coniks_directory.specs.declared.batch.BatchFault.TheVariants.{Workers, Depth, BatchTooLong, At, OutOfMemory}

-- the record's index is its name's, and name and key are within their limits
pub record IsPendingRecord (index_of : Octets → Octets) (r : Record) : Type 0 where
  pub indexed : r.index.0 ≡ index_of r.binding.name
  pub ranged : IsIndex r.index.0
  pub named : IsLength MAX_NAME r.binding.name
  pub keyed : IsLength MAX_KEY r.binding.key

-- the record with the commitment to its binding
abbrev pub committed_by : (Octets → Octets) → Record → Record
committed_by hash r = record r { commitment = record { 0 = commitment_to hash (registered_of r) } }

-- these bytes are the commitment to what the record at a place binds
abbrev pub IsCommitmentAt : (Octets → Octets) → List Record → ℕ → Octets → Type 0
IsCommitmentAt hash records place bytes = (b : Registered)
    → slice_get (map registered_of records) place ≡ Some b → bytes ≡ commitment_to hash b

-- these bytes are the commitments to what the records bind, from a place on
abbrev pub AreCommitmentsFrom : (Octets → Octets) → List Record → ℕ → List Octets → Type 0
AreCommitmentsFrom hash records place [] = Unit {0}
AreCommitmentsFrom hash records place (bytes ∷ rest) = IsCommitmentAt hash records place bytes × AreCommitmentsFrom hash records (place + 1) rest

-- the records as they were, up to a place with the commitments to their bindings
abbrev pub AreCommittedTo : (Octets → Octets) → List Record → ℕ → List Record → Type 0
AreCommittedTo hash records place committed = committed ≡ map (committed_by hash) (take place records) ++ drop place records

-- the records' commitments are those to their bindings
abbrev pub AreCommitted : (Octets → Octets) → List Record → Type 0
AreCommitted hash records = (n : ℕ) (r : Record) → slice_get records n ≡ Some r → r.commitment.0 ≡ commitment_to hash (registered_of r)

-- the number of the record at an index
abbrev pub number_at : BTreeMap Octets ℕ → Octets → Option ℕ
number_at numbers index = get (slice_cmp nat_cmp) numbers index

-- the records are those of the bindings, in their order, with indices of their own, and the map finds each by its index, and no other
pub record ArePendingRecords (hash index_of : Octets → Octets) (bound : List Registered)
    (records : List Record) (numbers : BTreeMap Octets ℕ) : Type 0 where
  pub binds : map registered_of records ≡ bound
  pub drafted : (n : ℕ) (r : Record) → slice_get records n ≡ Some r → IsPendingRecord index_of r
  pub retained : (index : Octets) (n : ℕ) → number_at numbers index ≡ Some n
      → (r : Record) × (slice_get records n ≡ Some r) × (r.index.0 ≡ index)
  pub all : (n : ℕ) (r : Record) → slice_get records n ≡ Some r → number_at numbers r.index.0 ≡ Some n
  pub ordered : IsOrdered (slice_cmp nat_cmp) numbers
  pub counted : btree_map_len numbers ≡ length records
  pub distinct : IsMap (entries_of hash index_of bound)

-- the records and their numbers are the same
pub record IsSamePending (old new : PendingRecords) : Type 0 where
  pub records : new.records.items ≡ old.records.items
  pub numbers : new.numbers.entries ≡ old.numbers.entries

-- the first `i` operations have no error after earlier bindings, so the first error is that of the others
abbrev pub IsJudged : (Octets → Octets) → Registry → List Registered → List Operation → ℕ → Type 0
IsJudged index_of registry bound ops i = fault_from index_of registry bound 0 ops ≡
    fault_from index_of registry (bound ++ map bound_by (take i ops)) i (drop i ops)

-- the entries are those of the records, which are to be stored from a place on, each once and in increasing order of index
pub record AreChangesOf (base : ℕ) (records : List Record) (entries : List Numbered) : Type 0 where
  pub increasing : AreIncreasing entries
  pub each : (n : ℕ) (r : Record) → slice_get records n ≡ Some r → IsIn (entry_of_record (base + n) r) entries
  pub only : (e : Numbered) → IsIn e entries → (n : ℕ) × (r : Record) × (slice_get records n ≡ Some r) × (entry_of_record (base + n) r ≡ e)
  pub counted : length entries ≡ length records

-- the first operation with an error after earlier bindings, and its first error; or an allocation failed
abbrev pub IsJudgedFaultAfter : (Octets → Octets) → Registry → List Registered → List Operation → BatchFault → Type 0
IsJudgedFaultAfter index_of registry bound ops Workers = ⊥
IsJudgedFaultAfter index_of registry bound ops Depth = ⊥
IsJudgedFaultAfter index_of registry bound ops BatchTooLong = ⊥
IsJudgedFaultAfter index_of registry bound ops (At position fault) = fault_from index_of registry bound 0 ops ≡ Some (position, fault_is fault)
IsJudgedFaultAfter index_of registry bound ops OutOfMemory = Unit {0}

-- the same of a batch, before which nothing is bound
abbrev pub IsJudgedFault : (Octets → Octets) → Registry → List Operation → BatchFault → Type 0
IsJudgedFault index_of registry ops fault = IsJudgedFaultAfter index_of registry [] ops fault
