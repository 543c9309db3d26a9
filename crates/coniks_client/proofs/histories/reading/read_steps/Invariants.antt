use Rattle.std.proofs.Common.{◌≤◌, ◌+◌, length}
use Rattle.coniks_client.specs.Histories.{IsReadTo}
use Rattle.coniks_client.specs.HistorySteps.{past_in}
use Rattle.coniks_client.proofs.histories.reading.read_steps.Given as goal

abbrev pub invariant-steps : goal.invariant-steps
invariant-steps l = record {
  read : IsReadTo l.bytes (past_in l.siblings l.before) l.rest l.count;
  few : l.before.count ≤ 256;
  room : l.count + length l.rest ≤ length l.bytes;
  memory : 256 ≤ length l.siblings;
}

abbrev pub decreases-steps : goal.decreases-steps
decreases-steps l = length l.rest
