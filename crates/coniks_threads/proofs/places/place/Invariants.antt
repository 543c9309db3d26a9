use Rattle.std.proofs.Common.{◌≡◌, length}
use Rattle.coniks_threads.specs.Places.{numbers, AreParts, Places}
use Rattle.coniks_threads.proofs.places.place.Given as goal

abbrev pub invariant-loop-job : goal.invariant-loop-job
invariant-loop-job g l = record {
  len : length l.placed ≡ length l.fn.placed;
  parts : AreParts (g.W.Work.part l.fn.work) (length l.fn.placed) l.done.items;
  places : Places (g.W.Work.part l.fn.work) l.fn.placed l.placed (numbers l.fn.done.items) (numbers l.done.items);
}

abbrev pub decreases-loop-job : goal.decreases-loop-job
decreases-loop-job g l = length l.done.items
