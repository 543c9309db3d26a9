-- Batches as the definitions of registries see them, and why one isn't accepted.
use Rattle.std.specs.Prelude.{◌≡◌, ◌<◌, ◌≤◌, ◌+◌, ◌*◌, ◌⊎◌, ℕ, zero, suc, List, [], ◌∷◌, length, map, Some, None}
use Rattle.coniks_proof.specs.Registry.{Registry}
use Rattle.coniks_proof.specs.Batches.{Kind, register, change, Operation, Fault, name_length, key_length, name_twice, name_taken, name_unknown, index_clash, first_fault}
use Rattle.coniks_proof.specs.Octets.{Octets}
use Rattle.coniks_proof.specs.declared.values.TheConstants.{MAX_OPERATIONS}
use Rattle.coniks_threads.specs.Parallel.{AreWorkers}
use Rattle.coniks_threads.specs.declared.building.TheConstants.{MAX_WORKERS}
use Rattle.coniks_threads.specs.declared.jobs.TheConstants.{MAX_DEPTH}
use Rattle.coniks_directory.specs.History.{Shown}
use Rattle.coniks_directory.specs.declared.batch.Op.{Op}
use Rattle.coniks_directory.specs.declared.batch.OpKind.{OpKind}
use Rattle.coniks_directory.specs.declared.batch.OpKind.TheVariants.{Register, Change}
use Rattle.coniks_directory.specs.declared.batch.OpFault.{OpFault}
use Rattle.coniks_directory.specs.declared.batch.OpFault.TheVariants.{NameLength, KeyLength, NameTwice, NameTaken, NameUnknown, IndexClash}
use Rattle.coniks_directory.specs.declared.batch.BatchFault.{BatchFault}
use Rattle.coniks_directory.specs.declared.batch.BatchFault.TheVariants.{Workers, Depth, BatchTooLong, At, OutOfMemory}

abbrev pub op_kind : OpKind → Kind
op_kind Register = register
op_kind Change = change

abbrev pub operation_of : Op → Operation
operation_of op = record { kind = op_kind op.kind; name = op.name; key = op.key; opening = op.opening.0 }

-- the operations of a batch
abbrev pub operations : List Op → List Operation
operations ops = map operation_of ops

abbrev pub fault_is : OpFault → Fault
fault_is NameLength = name_length
fault_is KeyLength = key_length
fault_is NameTwice = name_twice
fault_is NameTaken = name_taken
fault_is NameUnknown = name_unknown
fault_is IndexClash = index_clash

-- workers, depth and the batch's length are within their limits, and no operation has an error
pub record IsAccepted (index_of : Octets → Octets) (registry : Registry) (ops : List Operation) (depth workers : ℕ) : Type 0 where
  pub worker_count : AreWorkers workers
  pub shallow : depth ≤ MAX_DEPTH
  pub few : length ops ≤ MAX_OPERATIONS
  pub faultless : first_fault index_of registry ops ≡ None

-- the error of a batch that isn't accepted: the first that applies, in their order; or an allocation failed
abbrev pub IsBatchFault : (Octets → Octets) → Registry → List Operation → ℕ → ℕ → BatchFault → Type 0
IsBatchFault index_of registry ops depth workers Workers = (workers ≡ 0) ⊎ (MAX_WORKERS < workers)
IsBatchFault index_of registry ops depth workers Depth = AreWorkers workers × (MAX_DEPTH < depth)
IsBatchFault index_of registry ops depth workers BatchTooLong = AreWorkers workers × (depth ≤ MAX_DEPTH) × (MAX_OPERATIONS < length ops)
IsBatchFault index_of registry ops depth workers (At position fault) =
    AreWorkers workers × (depth ≤ MAX_DEPTH) × (length ops ≤ MAX_OPERATIONS)
    × (first_fault index_of registry ops ≡ Some (position, fault_is fault))
IsBatchFault index_of registry ops depth workers OutOfMemory = AreWorkers workers × (depth ≤ MAX_DEPTH) × (length ops ≤ MAX_OPERATIONS)

-- the largest number of nodes that an epoch with this number of operations adds after this history; without operations it is exact
abbrev pub most_nodes : List Shown → ℕ → ℕ
most_nodes [] zero = 1
most_nodes (shown ∷ history) zero = 0
most_nodes history (suc n) = 512 * suc n + 1

-- the largest number of nodes that an epoch with a new nonce adds, if it leaves this registry
abbrev pub most_anew : Registry → ℕ
most_anew registry = 512 * length registry + 1
