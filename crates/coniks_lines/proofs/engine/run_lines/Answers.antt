use Rattle.std.proofs.lemmas.Result.{IfOk-weaker, IfErr-weaker}
use Rattle.coniks_lines.proofs.RunsLemmas.{whole_input, part_of_input, ends_unbegun}
use Rattle.coniks_lines.proofs.engine.run_lines.Goals as goal

pub returns-clause-all_of : goal.returns-clause-all_of
returns-clause-all_of g c = λ input reported.
    IfOk-weaker c.read_lines.result _ _ (λ all ends. whole_input g.M.LineMachine.answer reported ends) c.read_lines.ensures.ok

pub returns-clause-part_of : goal.returns-clause-part_of
returns-clause-part_of g c = λ input reported.
    IfErr-weaker c.read_lines.result _ _ (λ fault ends. part_of_input g.M.LineMachine.answer reported ends) c.read_lines.ensures.err

pub returns-in_default-clause-err : goal.returns-in_default-clause-err
returns-in_default-clause-err g c = ends_unbegun g.M.LineMachine.answer (g.M.LineMachine.state c.args.machine.now) (g.R.ByteIn.source c.args.reader.now) (g.W.ByteOut.sink c.args.writer.now)
