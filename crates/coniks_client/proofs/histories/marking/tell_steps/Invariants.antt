use Rattle.std.proofs.Common.{◌≡◌, length}
use Rattle.coniks_client.specs.HistoryMarking.{AreReported}
use Rattle.coniks_client.proofs.histories.marking.tell_steps.Given as goal

abbrev pub invariant-loop-one : goal.invariant-loop-one
invariant-loop-one l = record {
  reported : AreReported l.watch l.name l.shown l.initial.stored l.initial.changes l.one-index l.stored l.changes;
  many : length l.stored ≡ length l.initial.stored;
}
