use Rattle.std.proofs.Common.{◌≡◌, ◌≤◌, length}
use Rattle.coniks_client.specs.HistoryChecking.{AreCheckedTo}
use Rattle.coniks_client.specs.HistorySteps.{past_in}
use Rattle.coniks_client.proofs.histories.checking.check_steps.Given as goal

abbrev pub invariant-steps : goal.invariant-steps
invariant-steps g l = record {
  checked : AreCheckedTo (g.H.Hash32.digest_of l.by.hash.now) l.by.index.0 l.by.stored.now l.by.name.now l.bytes l.shown (past_in l.siblings l.before) l.rest l.count;
  few : l.before.count ≤ 256;
  room : l.count ≤ length l.shown;
  same_room : length l.shown ≡ length l.initial.shown;
  memory : 256 ≤ length l.siblings;
}

abbrev pub decreases-steps : goal.decreases-steps
decreases-steps g l = length l.rest
