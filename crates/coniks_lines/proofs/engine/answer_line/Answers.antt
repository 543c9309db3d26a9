use Rattle.std.proofs.Common.{◌≡◌, ◌+◌, ◌∷◌, [], ◌++◌, arith}
use Rattle.std.proofs.lemmas.Result.{err_from_is_err_and}
use Rattle.std.proofs.lemmas.Grind.{common_steps}
use Rattle.coniks_lines.proofs.RunsLemmas.{stops_in_text, stops_at_flush, stops_before}
use Rattle.coniks_lines.proofs.engine.answer_line.Goals as goal

pub returns-in_err-write_all-clause-err : goal.returns-in_err-write_all-clause-err
returns-in_err-write_all-clause-err g c =
    let p = err_from_is_err_and c.from_residual.result c.from_residual.ensures.1 in
    let answer = g.M.LineMachine.answer in
    let state = g.M.LineMachine.state c.args.machine.now in
    let sink = g.W.ByteOut.sink in
    let line = c.args.buffered.now.items ++ c.args.part.now in
    let text : c.deref.result.now ≡ (answer state line).text ++ 10 ∷ [] = grind (arith, common_steps) in
    let part = c.in_err-write_all.ensures.part in
    λ still.
    rw (p.1, p.2, c.in_err-write_all.ensures.err)
    (stops_in_text answer state line c.deref.result.now (sink c.args.writer.now) (sink c.write_all.new.writer)
    part.0 still text part.1 c.in_err-write_all.ensures.flushes c.in_err-write_all.ensures.because)

pub returns-in_default-clause-err : goal.returns-in_default-clause-err
returns-in_default-clause-err g c = λ still. stops_before g.M.LineMachine.answer (g.M.LineMachine.state c.args.machine.now) (c.args.buffered.now.items ++ c.args.part.now) (g.W.ByteOut.sink c.args.writer.now) still

pub returns-in_default-step-clause-err : goal.returns-in_default-step-clause-err
returns-in_default-step-clause-err g c = λ still. stops_before g.M.LineMachine.answer (g.M.LineMachine.state c.args.machine.now) (c.args.buffered.now.items ++ c.args.part.now) (g.W.ByteOut.sink c.args.writer.now) still

pub returns-then-is_err-clause-err : goal.returns-then-is_err-clause-err
returns-then-is_err-clause-err g c = λ still. stops_before g.M.LineMachine.answer (g.M.LineMachine.state c.args.machine.now) (c.args.buffered.now.items ++ c.args.part.now) (g.W.ByteOut.sink c.args.writer.now) still

pub returns-then-is_err-2-clause-err : goal.returns-then-is_err-2-clause-err
returns-then-is_err-2-clause-err g c =
    let answer = g.M.LineMachine.answer in
    let state = g.M.LineMachine.state c.args.machine.now in
    let sink = g.W.ByteOut.sink in
    let line = c.args.buffered.now.items ++ c.args.part.now in
    let wrote = c.in_ok-write_all.ensures in
    let text : c.deref.result.now ≡ (answer state line).text ++ 10 ∷ [] = grind (arith, common_steps) in
    let flushed : (sink c.flush.new.self).flushes ≡ (sink c.write_all.new.writer).flushes = grind (arith, common_steps) in
    let failed : (sink c.flush.new.self).failed ≡ (sink c.write_all.new.writer).failed + 1 = grind (arith, common_steps) in
    λ still.
    stops_at_flush answer state line c.deref.result.now (sink c.args.writer.now) (sink c.write_all.new.writer) (sink c.flush.new.self) still
    text wrote.ok wrote.flushes wrote.writes_on c.flush.ensures.written flushed failed
