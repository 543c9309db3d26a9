use Rattle.coniks_programs.proofs.Lemmas.{run_is}
use Rattle.coniks_lines.proofs.Lemmas.{run_of}
use Rattle.coniks_tool.specs.Monitor.{monitor_answer}
use Rattle.coniks_tool.proofs.monitor.machine.run_monitor.Goals as goal

pub returns : goal.returns
returns g c = rw (← c.new-monitoring.ensures, c.of_run.ensures)
    (record { run = run_is (λ _. ⊥) c.run_lines.result (run_of monitor_answer _ c.run_lines.result c.run_lines.ensures.ok c.run_lines.ensures.err) })
