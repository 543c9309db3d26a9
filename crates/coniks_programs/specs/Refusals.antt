-- Why a line is refused.
use Rattle.std.specs.Prelude.{ℕ, codes, Option, Some, None}
use Rattle.serde_json.specs.Data.{Data}
use Rattle.coniks_proof.specs.Batches.{Fault}
use Rattle.coniks_directory.specs.Batches.{fault_is}
use Rattle.coniks_directory.specs.declared.batch.BatchFault.{BatchFault}
use Rattle.coniks_directory.specs.declared.batch.BatchFault.TheVariants as batch
use Rattle.coniks_programs.specs.Replies.{bad_element_data, bad_member_data, epoch_not_later_data, fault_data, fault_name, member_name, placed_fault_data}
use Rattle.coniks_programs.specs.declared.printing.Member.{Member}
use Rattle.coniks_programs.specs.declared.refusal.Refusal.{Refusal as Reason}
use Rattle.coniks_programs.specs.declared.refusal.Refusal.TheVariants as reason

-- why a line is refused, in numbers and the errors of batches
pub data Refusal : Type 0 where
  -- the line isn't a JSON object
  not_json : Refusal
  -- the line has no known command
  no_command : Refusal
  -- a member is missing, of another kind or of a wrong text
  bad_member : Member → Refusal
  -- the element of this member at this place is no operation, or no binding
  bad_element : Member → (place : ℕ) → Refusal
  -- the directory isn't open yet
  not_open : Refusal
  -- the directory is open already, or a restore has begun
  already_open : Refusal
  -- a line has too many operations or bindings
  batch_too_long : Refusal
  -- the operation or the binding at this place has an error
  bad_batch : (place : ℕ) → Fault → Refusal
  -- the epoch isn't later than the latest one
  epoch_not_later : (latest : ℕ) → Refusal
  -- the board has no room for a further head
  board_full : Refusal
  -- no epoch has exactly the number requested
  unknown_epoch : Refusal
  -- the name requested is empty or too long
  bad_name_length : Refusal

abbrev pub refusal_of : Reason → Refusal
refusal_of reason.NotJson = not_json
refusal_of reason.NoCommand = no_command
refusal_of (reason.BadMember m) = bad_member m
refusal_of (reason.BadElement m place) = bad_element m place
refusal_of reason.NotOpen = not_open
refusal_of reason.AlreadyOpen = already_open
refusal_of reason.BatchTooLong = batch_too_long
refusal_of (reason.BadBatch place fault) = bad_batch place (fault_is fault)
refusal_of (reason.EpochNotLater latest) = epoch_not_later latest
refusal_of reason.BoardFull = board_full
refusal_of reason.UnknownEpoch = unknown_epoch
refusal_of reason.NameLength = bad_name_length

-- the object that is printed
abbrev pub refusal_data : Refusal → Data
refusal_data not_json = fault_data (codes "Json")
refusal_data no_command = fault_data (codes "Command")
refusal_data (bad_member m) = bad_member_data (member_name m)
refusal_data (bad_element m place) = bad_element_data (member_name m) place
refusal_data not_open = fault_data (codes "NotOpen")
refusal_data already_open = fault_data (codes "AlreadyOpen")
refusal_data batch_too_long = fault_data (codes "BatchTooLong")
refusal_data (bad_batch place fault) = placed_fault_data (fault_name fault) place
refusal_data (epoch_not_later latest) = epoch_not_later_data latest
refusal_data board_full = fault_data (codes "BoardFull")
refusal_data unknown_epoch = fault_data (codes "UnknownEpoch")
refusal_data bad_name_length = fault_data (codes "NameLength")

-- why a batch with this error is refused; nothing if an allocation failed
abbrev pub refused_as : BatchFault → Option Refusal
refused_as batch.BatchTooLong = Some batch_too_long
refused_as (batch.At position fault) = Some (bad_batch position (fault_is fault))
refused_as _ = None

-- the error isn't the number of workers or the depth
abbrev pub IsRefusable : BatchFault → Type 0
IsRefusable batch.Workers = ⊥
IsRefusable batch.Depth = ⊥
IsRefusable _ = Unit {0}
