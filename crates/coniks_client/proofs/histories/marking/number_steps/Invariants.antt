use Rattle.coniks_client.specs.HistoryMarking.{AreNumberedTo}
use Rattle.coniks_client.proofs.histories.marking.number_steps.Given as goal

abbrev pub invariant-loop-i : goal.invariant-loop-i
invariant-loop-i l = AreNumberedTo l.watch l.name l.stored l.initial.shown l.shown l.i
