use Rattle.coniks_programs.proofs.Lemmas.{run_is}
use Rattle.coniks_lines.proofs.Lemmas.{run_of}
use Rattle.coniks_tool.specs.Check.{check_answer}
use Rattle.coniks_tool.proofs.check.machine.run_check.Goals as goal

pub returns : goal.returns
returns g c = rw c.of_run.ensures (record { run = run_is (λ _. ⊥) c.run_lines.result (run_of check_answer _ c.run_lines.result c.run_lines.ensures.ok c.run_lines.ensures.err) })
