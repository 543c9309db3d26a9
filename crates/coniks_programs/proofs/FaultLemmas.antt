-- The errors of runs, by those of their lines.
use Rattle.std.proofs.Common.{ℕ, List, Bool, Result, Ok, Err}
use Rattle.coniks_lines.specs.Machine.{Answer}
use Rattle.coniks_lines.specs.Runs.{EndsBadly, IsRunOf, Streams}
use Rattle.coniks_lines.specs.declared.fault.LineFault.{LineFault}
use Rattle.coniks_lines.specs.declared.fault.LineFault.TheVariants as lines
use Rattle.coniks_programs.specs.Faults.{Says, of_lines, of_run}

-- an error of lines says the same of their run
says-of_lines : (P : LineFault → Type 0) (Q : Type 0) (fault : LineFault) → P fault → Says P Q (of_lines fault)
says-of_lines P Q lines.Read h = h
says-of_lines P Q lines.Write h = h
says-of_lines P Q lines.OutOfMemory h = h

-- a run over lines, as a run
pub run_is : {S : Type 0} {answer : S → List ℕ → Answer S} {s : S} {io : Streams} (Boardless : Streams → Type 0) (result : Result Bool LineFault)
    → IsRunOf answer s (EndsBadly answer s) io result → IsRunOf answer s (λ io. Says (EndsBadly answer s io) (Boardless io)) io (of_run result)
run_is {S} {answer} {s} {io} Boardless (Ok all) run = record { ok = run.ok; err = tt; all_of = run.all_of; part_of = λ input reported. tt }
run_is {S} {answer} {s} {io} Boardless (Err fault) run = record { ok = tt; err = says-of_lines (EndsBadly answer s io) (Boardless io) fault run.err; all_of = λ input reported. tt; part_of = run.part_of }
