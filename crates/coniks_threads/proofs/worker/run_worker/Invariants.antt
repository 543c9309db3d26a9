use Rattle.std.proofs.Common.{◌≡◌, false, length, ◌-◌}
use Rattle.coniks_threads.specs.Places.{numbers, AreParts}
use Rattle.coniks_threads.proofs.worker.run_worker.Given as goal

abbrev pub invariant-loop-job : goal.invariant-loop-job
invariant-loop-job g l = record {
  table : l.worker.drawer.table ≡ l.fn.worker.drawer.table;
  limit : l.worker.drawer.limit ≡ l.fn.worker.drawer.limit;
  first : l.worker.drawer.first ≡ l.fn.worker.drawer.first;
  splits : l.worker.drawer.splits ≡ l.fn.worker.drawer.splits;
  numbers : numbers l.worker.done.items ≡ l.worker.drawer.list;
  parts : AreParts (g.W.Work.part l.work) l.fn.worker.drawer.limit l.worker.done.items;
  failed : l.worker.failed ≡ false;
}

abbrev pub decreases-loop-job : goal.decreases-loop-job
decreases-loop-job g l = l.worker.drawer.limit - length l.worker.drawer.list
