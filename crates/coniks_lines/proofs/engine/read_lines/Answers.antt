use Rattle.std.proofs.Common.{◌≡◌, ◌≢◌, ℕ, ◌+◌, ◌%◌, ◌^◌, List, [], ◌∷◌, ◌++◌, take, arith, ap, ◌∙◌, subst, inl, inr}
use Rattle.std.proofs.lemmas.List.{append-nil}
use Rattle.std.proofs.lemmas.Result.{err_from_is_err_and}
use Rattle.std.proofs.lemmas.Grind.{common_steps}
use Rattle.std.proofs.KnownBytes.{Consumes-kept}
use Rattle.std.specs.Io.KnownBytes.{Keeps}
use Rattle.coniks_lines.specs.Runs.{AnswersLine, StopsFor, streams}
use Rattle.coniks_lines.proofs.KnownLemmas.{Takes-then, Takes-end}
use Rattle.coniks_lines.proofs.RunsLemmas.{ReadsOn, Counted, AnswersWhole-then, ReadsOn-then, ReadsOn-end, ends_in_chunk, ends_at_last, ends_unread, Counted-next, Counted-some, ends_empty, ends_with_line, AnswersAll-same}
use Rattle.coniks_lines.proofs.engine.read_lines.Goals as goal
use Rattle.coniks_lines.proofs.engine.read_lines.Goals.{then-not-is_empty+in_ok-accepted, else-not-is_empty}

-- ---- a read that answered 0: the source has ended, and what is buffered is the last line

pub returns-in_err-accepted-clause-err : goal.returns-in_err-accepted-clause-err
returns-in_err-accepted-clause-err g c =
    let p = err_from_is_err_and c.from_residual.result c.from_residual.ensures.1 in
    let source = g.R.ByteIn.source in
    let loop = c.loop-reads in
    let inv = loop.invariant.1 in
    let from = source c.args.reader.now in
    let from' = source c.read.new.self in
    let some : loop.buffered.items ≢ [] = grind (arith, common_steps) in
    -- all bytes were read
    let ends : from'.ends ≡ (((source loop.reader).ends + 1) % 2 ^ 64) = grind (arith, common_steps) in
    let failed : from'.failed ≡ (source loop.reader).failed = grind (arith, common_steps) in
    let ended = ReadsOn-end from (source loop.reader) from' inv.reads_on ends (c.in-Ok.ensures.none_left c.if-count-eq0.true) in
    let took = Takes-end from (source loop.reader) from' loop.invariant.0 c.read.new.buffer c.in-Ok.count inv.taken c.in-Ok.ensures.taken c.if-count-eq0.true in
    -- and the last line wasn't answered
    let at_line = subst (λ (line : List ℕ). StopsFor g.M.LineMachine.answer (g.M.LineMachine.state loop.machine) (line ∷ [])
    (streams from from (g.W.ByteOut.sink loop.writer) (g.W.ByteOut.sink c.answer_line.new.writer)) c.in_err-accepted.field-0.0) (append-nil loop.buffered.items) (c.in_err-accepted.ensures.err from) in
    rw (p.1, p.2) (ends_at_last g.M.LineMachine.answer some took (failed ∙ inv.reads_on.none_failed) ended inv.answers at_line)

pub returns-then-count-eq0-clause-ok : goal.returns-then-count-eq0-clause-ok
returns-then-count-eq0-clause-ok g c =
    let answer = g.M.LineMachine.answer in
    let state = g.M.LineMachine.state in
    let sink = g.W.ByteOut.sink in
    let source = g.R.ByteIn.source in
    let loop = c.loop-reads in
    let inv = loop.invariant.1 in
    let from = source c.args.reader.now in
    let from' = source c.read.new.self in
    let ends : from'.ends ≡ (((source loop.reader).ends + 1) % 2 ^ 64) = grind (arith, common_steps) in
    let failed : from'.failed ≡ (source loop.reader).failed = grind (arith, common_steps) in
    record {
      bytes = loop.invariant.0;
      read = Takes-end from (source loop.reader) from' loop.invariant.0 c.read.new.buffer c.in-Ok.count inv.taken c.in-Ok.ensures.taken c.if-count-eq0.true;
      at_end = ReadsOn-end from (source loop.reader) from' inv.reads_on ends (c.in-Ok.ensures.none_left c.if-count-eq0.true);
      none_failed = failed ∙ inv.reads_on.none_failed;
      answers = elim c.if-not-is_empty.branch [
        -- the last line was answered
        | then-not-is_empty+in_ok-accepted w ↦
            let some : loop.buffered.items ≢ [] = grind (arith, common_steps, w.if-not-is_empty.true) in
            let line = subst (λ (l : List ℕ). AnswersLine answer (state loop.machine) l (sink loop.writer) (sink w.answer_line.new.writer)
            (state w.answer_line.new.machine) w.in_ok-accepted.accepted) (append-nil loop.buffered.items) w.in_ok-accepted.ensures.ok in
            AnswersAll-same answer (ends_with_line answer some inv.answers line) (ap state w.machine-is) (ap sink w.writer-is) w.all-is
        -- nothing was buffered
        | else-not-is_empty w ↦
            let none : loop.buffered.items ≡ [] = grind (arith, common_steps, w.if-not-is_empty.false) in
            AnswersAll-same answer (ends_empty answer none inv.answers) (ap state w.machine-is) (ap sink w.writer-is) w.all-is
      ];
    }

-- ---- a read that gave a chunk

pub returns-in_err-accepted-2-clause-err : goal.returns-in_err-accepted-2-clause-err
returns-in_err-accepted-2-clause-err g c =
    let p = err_from_is_err_and c.from_residual-in_err-accepted-2.result c.from_residual-in_err-accepted-2.ensures.1 in
    let source = g.R.ByteIn.source in
    let loop = c.loop-reads in
    let inv = loop.invariant.1 in
    let chunk = take c.in-Ok.count c.read.new.buffer in
    let from = source c.args.reader.now in
    let from' = source c.read.new.self in
    let failed : from'.failed ≡ (source loop.reader).failed = grind (arith, common_steps) in
    let took = Takes-then from (source loop.reader) from' loop.invariant.0 chunk inv.taken c.in-Ok.ensures.taken in
    rw (p.1, p.2) (ends_in_chunk g.M.LineMachine.answer chunk took (failed ∙ inv.reads_on.none_failed) inv.answers (c.in_err-accepted-2.ensures.err from))

pub loop-reads-preserved : goal.loop-reads-preserved
loop-reads-preserved g c =
    let source = g.R.ByteIn.source in
    let loop = c.loop-reads in
    let bytes = loop.invariant.0 in
    let inv = loop.invariant.1 in
    let chunk = take c.in-Ok.count c.read.new.buffer in
    let on : ReadsOn (source loop.reader) (source c.read.new.self) = grind (arith, common_steps) in (
      bytes ++ chunk,
      record {
        taken = Takes-then (source c.args.reader.now) (source loop.reader) (source c.read.new.self) bytes chunk inv.taken c.in-Ok.ensures.taken;
        counted = Counted-next loop._reads (source c.args.reader.now).reads (source loop.reader).reads (source c.read.new.self).reads inv.counted c.in-Ok.ensures.reads;
        answers = AnswersWhole-then g.M.LineMachine.answer inv.answers c.in_ok-accepted-2.ensures.ok;
        reads_on = ReadsOn-then (source c.args.reader.now) (source loop.reader) (source c.read.new.self) inv.reads_on on;
      },
    )

-- ---- a read that failed, or reads that met no end: the whole lines were answered

pub returns-in_default-clause-err : goal.returns-in_default-clause-err
returns-in_default-clause-err g c =
    let source = g.R.ByteIn.source in
    let loop = c.loop-reads in
    let inv = loop.invariant.1 in
    let from' = source c.read.new.self in
    let retained : Keeps (source loop.reader).left from'.left = grind (arith, common_steps) in
    let failed : from'.failed ≡ (source loop.reader).failed + 1 = grind (arith, common_steps) in
    let ends : from'.ends ≡ (source loop.reader).ends = grind (arith, common_steps) in
    let took = Consumes-kept (source c.args.reader.now).left (source loop.reader).left from'.left loop.invariant.0 inv.taken retained in
    ends_unread g.M.LineMachine.answer took (ends ∙ inv.reads_on.not_ended, inl (failed ∙ ap (λ (n : ℕ). n + 1) inv.reads_on.none_failed)) inv.answers

pub returns-clause-err : goal.returns-clause-err
returns-clause-err g c =
    let loop = c.loop-reads in
    let inv = loop.invariant.1 in
    let from = g.R.ByteIn.source c.args.reader.now in
    let from' = g.R.ByteIn.source loop.reader in
    let many : loop._reads ≡ 2 ^ 63 = omega (arith, c.loop-reads-test.false, loop.auto._reads-end) in
    let counted = subst (λ (k : ℕ). Counted k from.reads from'.reads) many inv.counted in
    ends_unread g.M.LineMachine.answer inv.taken (inv.reads_on.not_ended, inr (Counted-some (2 ^ 63) from.reads from'.reads (omega arith) counted)) inv.answers
