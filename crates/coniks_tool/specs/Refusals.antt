-- Why a batch or a lookup is refused.
use Rattle.std.specs.Prelude.{◌≡◌, ℕ, List, length, nat_lt, nat_le, Option, Some, None, if◌then◌else◌}
use Rattle.coniks_proof.specs.Batches.{Operation, Fault, first_fault}
use Rattle.coniks_proof.specs.Octets.{Octets}
use Rattle.coniks_proof.specs.declared.values.TheConstants.{MAX_OPERATIONS}
use Rattle.coniks_directory.specs.Batches.{fault_is}
use Rattle.coniks_directory.specs.History.{Shown, latest_epoch, latest_registry}
use Rattle.coniks_directory.specs.declared.batch.BatchFault.TheVariants as batch
use Rattle.coniks_directory.specs.declared.update.CommitFault.{CommitFault}
use Rattle.coniks_directory.specs.declared.update.CommitFault.TheVariants.{Batch, Install}
use Rattle.coniks_directory.specs.declared.update.InstallFault.TheVariants as install
use Rattle.coniks_directory.specs.declared.lookup.LookupFault.{LookupFault}
use Rattle.coniks_directory.specs.declared.lookup.LookupFault.TheVariants as lookup
use Rattle.coniks_programs.specs.Refusals.{Refusal, bad_batch, bad_name_length, batch_too_long, board_full, epoch_not_later, unknown_epoch}
use Rattle.coniks_tool.specs.Limits.{most_epochs}

-- why no batch is installed under a number: it isn't later, else there are as many epochs as the board takes heads
abbrev pub number_refusal : List Shown → ℕ → Option Refusal
number_refusal history epoch =
    if nat_lt (latest_epoch history) epoch
    then (if nat_lt (length history) most_epochs then None else Some board_full)
    else Some (epoch_not_later (latest_epoch history))

-- the first operation with an error refuses the batch, else its number may
abbrev pub refusal_from : List Shown → ℕ → Option (ℕ × Fault) → Option Refusal
refusal_from history epoch (Some found) = Some (bad_batch found.0 found.1)
refusal_from history epoch None = number_refusal history epoch

-- why the history refuses a batch under a number; `index_of` gives each name its index
abbrev pub refusal : (Octets → Octets) → List Shown → ℕ → List Operation → Option Refusal
refusal index_of history epoch ops =
    if nat_le (length ops) MAX_OPERATIONS
    then refusal_from history epoch (first_fault index_of (latest_registry history) ops)
    else Some batch_too_long

-- a commit's error is this refusal; or an allocation failed
abbrev pub IsRefusedBy : Option Refusal → CommitFault → Type 0
IsRefusedBy why (Batch batch.Workers) = ⊥
IsRefusedBy why (Batch batch.Depth) = ⊥
IsRefusedBy why (Batch batch.BatchTooLong) = why ≡ Some batch_too_long
IsRefusedBy why (Batch (batch.At position fault)) = why ≡ Some (bad_batch position (fault_is fault))
IsRefusedBy why (Batch batch.OutOfMemory) = Unit {0}
IsRefusedBy why (Install (install.Stale latest)) = ⊥
IsRefusedBy why (Install (install.EpochNotLater latest)) = why ≡ Some (epoch_not_later latest)
IsRefusedBy why (Install install.BoardFull) = why ≡ Some board_full
IsRefusedBy why (Install install.OutOfMemory) = Unit {0}
IsRefusedBy why (Install install.SignerRefused) = ⊥

-- why a lookup with this error is refused; nothing if an allocation failed
abbrev pub lookup_refused_as : LookupFault → Option Refusal
lookup_refused_as lookup.UnknownEpoch = Some unknown_epoch
lookup_refused_as lookup.NameLength = Some bad_name_length
lookup_refused_as lookup.OutOfMemory = None
