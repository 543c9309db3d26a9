use Rattle.std.proofs.Common.{◌≡◌, ◌+◌, ◌++◌, length, drop, arith, refl, sym}
use Rattle.std.proofs.lemmas.Result.{err_from_is_err_and}
use Rattle.std.proofs.lemmas.Grind.{common_steps}
use Rattle.coniks_lines.proofs.LinesLemmas.{part_of, newline_found, no_newline_found, front_and_rest}
use Rattle.coniks_lines.proofs.RunsLemmas.{AnswersWhole-then, AnswersWhole-same, line_answered, no_line_answered, stops_at_line, stops_after, and_true}
use Rattle.coniks_lines.proofs.engine.take_chunk.Goals as goal

pub returns-in_err-accepted-clause-err : goal.returns-in_err-accepted-clause-err
returns-in_err-accepted-clause-err g c =
    let p = err_from_is_err_and c.from_residual.result c.from_residual.ensures.1 in
    let loop = c.loop-ahead in
    let chunk = c.args.chunk.now in
    let found = newline_found chunk loop.start c.in-Some.ahead loop.invariant.within c.in-Some.ensures in
    λ still.
    rw (p.1, p.2)
    (stops_at_line g.M.LineMachine.answer (part_of chunk loop.start (loop.start + c.in-Some.ahead)) (drop (c.in-Some.ahead + 1) (drop loop.start chunk))
    still c.in_err-accepted.field-0.0 found.parts found.none_before loop.invariant.answers (c.in_err-accepted.ensures.err still))

pub loop-ahead-preserved : goal.loop-ahead-preserved
loop-ahead-preserved g c =
    let answer = g.M.LineMachine.answer in
    let reported = c.in_ok-accepted.ensures in
    let start = c.loop-ahead.start in
    let found = newline_found c.args.chunk.now start c.in-Some.ahead c.loop-ahead.invariant.within c.in-Some.ensures in
    let line = line_answered answer c.loop-ahead.buffered.items (part_of c.args.chunk.now start (start + c.in-Some.ahead)) found.none_before reported.ok in
    record {
      within = omega (arith, found.fits);
      answers = AnswersWhole-same answer (AnswersWhole-then answer c.loop-ahead.invariant.answers line) found.longer reported.none_buffered refl;
    }

pub returns-then-is_err-clause-err : goal.returns-then-is_err-clause-err
returns-then-is_err-clause-err g c =
    let chunk = c.args.chunk.now in
    let start = c.loop-ahead.start in
    λ still. stops_after g.M.LineMachine.answer (part_of chunk start (length chunk)) still (front_and_rest chunk start) c.loop-ahead.invariant.answers

pub returns-clause-ok : goal.returns-clause-ok
returns-clause-ok g c =
    let answer = g.M.LineMachine.answer in
    let loop = c.loop-ahead in
    let chunk = c.args.chunk.now in
    let rest = part_of chunk loop.start (length chunk) in
    let buffered = no_line_answered answer {t = g.M.LineMachine.state loop.machine} loop.buffered.items rest {old = g.W.ByteOut.sink loop.writer} (no_newline_found rest c.in_default.ensures) in
    let extended : c.extend_from_slice.new.self.items ≡ loop.buffered.items ++ rest = grind (arith, common_steps) in
    AnswersWhole-same answer (AnswersWhole-then answer loop.invariant.answers buffered) (sym (front_and_rest chunk loop.start)) extended (and_true loop.all)
