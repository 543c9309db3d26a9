use Rattle.std.proofs.Common.{◌≡◌, subst}
use Rattle.coniks_lines.specs.Runs.{IsRunOf, streams}
use Rattle.coniks_lines.proofs.Lemmas.{run_of}
use Rattle.coniks_programs.specs.Faults.{FailsWithBoard, of_run}
use Rattle.coniks_programs.proofs.Lemmas.{run_is}
use Rattle.coniks_tool.specs.Script.{ScriptState, script_answer}
use Rattle.coniks_tool.proofs.run.machine.run_script.Goals as goal

pub returns : goal.returns
returns g c =
    let from = g.R.ByteIn.source in
    let to = g.W.ByteOut.sink in
    let io = streams (from c.args.reader.now) (from c.run_lines.new.reader) (to c.args.writer.now) (to c.run_lines.new.writer) in
    record {
      run = rw c.of_run.ensures (subst (λ (s : ScriptState). IsRunOf script_answer s (FailsWithBoard script_answer s) io (of_run c.run_lines.result)) c.in_ok-store.ensures.ok
          (run_is (λ io. (io.from' ≡ io.from) × (io.to' ≡ io.to)) c.run_lines.result (run_of script_answer _ c.run_lines.result c.run_lines.ensures.ok c.run_lines.ensures.err)));
    }
