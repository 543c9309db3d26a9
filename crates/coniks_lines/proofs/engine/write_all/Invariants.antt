use Rattle.std.proofs.Common.{length, ◌-◌, ◌≤◌, ◌≡◌, take}
use Rattle.coniks_lines.specs.Known.{Appends}
use Rattle.coniks_lines.specs.Runs.{WritesOn}
use Rattle.coniks_lines.proofs.engine.write_all.Given as goal

-- the bytes so far are written, and nothing failed
abbrev pub invariant-loop-done : goal.invariant-loop-done
invariant-loop-done g l =
    let sink = g.W.ByteOut.sink in
    record {
      within : l.done ≤ length l.bytes;
      written : Appends (sink l.fn.writer) (take l.done l.bytes) (sink l.writer);
      writes_on : WritesOn (sink l.fn.writer) (sink l.writer);
      flushes : (sink l.writer).flushes ≡ (sink l.fn.writer).flushes;
    }

abbrev pub decreases-loop-done : goal.decreases-loop-done
decreases-loop-done g l = length l.bytes - l.done
