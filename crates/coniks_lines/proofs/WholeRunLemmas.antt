-- Runs, as the callers of `run_lines` state them.
use Rattle.std.proofs.Common.{ℕ, List, Bool, Result, Ok, Err, IfOk, IfErr}
use Rattle.coniks_lines.specs.Machine.{Answer}
use Rattle.coniks_lines.specs.Runs.{EndsWell, EndsBadly, IsRunOf, Streams}
use Rattle.coniks_lines.specs.declared.fault.LineFault.{LineFault}
use Rattle.coniks_lines.proofs.RunsLemmas.{whole_input, part_of_input}

module _ {S : Type 0} (answer : S → List ℕ → Answer S) where
  -- what `run_lines` ensures, of a machine whose last state is not retained
  pub run_of : {s : S} (t : S) {io : Streams} (result : Result Bool LineFault)
      → IfOk result (EndsWell answer s io t) → IfErr result (EndsBadly answer s io)
      → IsRunOf answer s (EndsBadly answer s) io result
  run_of t (Ok all) well bad = record { ok = (t, well); err = tt; all_of = λ input reported. (t, whole_input answer reported well); part_of = λ input reported. tt }
  run_of t (Err fault) well bad = record { ok = tt; err = bad; all_of = λ input reported. tt; part_of = λ input reported. part_of_input answer reported bad }
