-- The errors of runs.
use Rattle.std.specs.Prelude.{◌≡◌, Bool, Result, Ok, Err}
use Rattle.coniks_proof.specs.Octets.{Octets}
use Rattle.coniks_lines.specs.Machine.{Answer}
use Rattle.coniks_lines.specs.Runs.{EndsBadly, Streams}
use Rattle.coniks_lines.specs.declared.fault.LineFault.{LineFault}
use Rattle.coniks_lines.specs.declared.fault.LineFault.TheVariants as lines
use Rattle.coniks_programs.specs.declared.fault.RunFault.{RunFault}
use Rattle.coniks_programs.specs.declared.fault.RunFault.TheVariants.{Read, Write, OutOfMemory, NoBoard}

-- the error of a run whose lines ended with this one
abbrev pub of_lines : LineFault → RunFault
of_lines lines.Read = Read
of_lines lines.Write = Write
of_lines lines.OutOfMemory = OutOfMemory

-- the result of a run whose lines ended with this one
abbrev pub of_run : Result Bool LineFault → Result Bool RunFault
of_run (Ok all) = Ok all
of_run (Err fault) = Err (of_lines fault)

-- what an error of a run says: what that of its lines says, or, without a board, something else
abbrev pub Says : (LineFault → Type 0) → Type 0 → RunFault → Type 0
Says OfLines Boardless Read = OfLines lines.Read
Says OfLines Boardless Write = OfLines lines.Write
Says OfLines Boardless OutOfMemory = OfLines lines.OutOfMemory
Says OfLines Boardless NoBoard = Boardless

-- the streams after an error of a run that needs no board
abbrev pub FailsOn : {S : Type 0} → (S → Octets → Answer S) → S → Streams → RunFault → Type 0
FailsOn answer start io = Says (EndsBadly answer start io) ⊥

-- the streams after an error of a run that needs a board: without a board, nothing was read or written
abbrev pub FailsWithBoard : {S : Type 0} → (S → Octets → Answer S) → S → Streams → RunFault → Type 0
FailsWithBoard answer start io = Says (EndsBadly answer start io) ((io.from' ≡ io.from) × (io.to' ≡ io.to))
