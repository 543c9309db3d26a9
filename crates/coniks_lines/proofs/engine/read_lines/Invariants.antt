use Rattle.std.proofs.Common.{ℕ, List, []}
use Rattle.coniks_lines.specs.Known.{Takes}
use Rattle.coniks_lines.specs.Runs.{AnswersWhole}
use Rattle.coniks_lines.proofs.RunsLemmas.{ReadsOn, Counted}
use Rattle.coniks_lines.proofs.engine.read_lines.Given as goal

-- the whole lines of the bytes that were read are answered
abbrev pub invariant-loop-reads : goal.invariant-loop-reads
invariant-loop-reads g l =
    let sink = g.W.ByteOut.sink in
    let state = g.M.LineMachine.state in
    let source = g.R.ByteIn.source in
    (bytes : List ℕ) × record {
      taken : Takes (source l.fn.reader) bytes (source l.reader);
      counted : Counted l._reads (source l.fn.reader).reads (source l.reader).reads;
      answers : AnswersWhole g.M.LineMachine.answer (state l.fn.machine) [] bytes (sink l.fn.writer) (sink l.writer) (state l.machine) l.buffered.items l.all;
      reads_on : ReadsOn (source l.fn.reader) (source l.reader);
    }
