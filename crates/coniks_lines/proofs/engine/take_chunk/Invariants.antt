use Rattle.std.proofs.Common.{length, ◌-◌, ◌≤◌, take}
use Rattle.coniks_lines.specs.Runs.{AnswersWhole}
use Rattle.coniks_lines.proofs.engine.take_chunk.Given as goal

-- the lines that end before `start` are answered
abbrev pub invariant-loop-ahead : goal.invariant-loop-ahead
invariant-loop-ahead g l =
    let sink = g.W.ByteOut.sink in
    let state = g.M.LineMachine.state in
    record {
      within : l.start ≤ length l.chunk;
      answers : AnswersWhole g.M.LineMachine.answer (state l.fn.machine) l.fn.buffered.items (take l.start l.chunk) (sink l.fn.writer) (sink l.writer) (state l.machine) l.buffered.items l.all;
    }

abbrev pub decreases-loop-ahead : goal.decreases-loop-ahead
decreases-loop-ahead g l = length l.chunk - l.start
