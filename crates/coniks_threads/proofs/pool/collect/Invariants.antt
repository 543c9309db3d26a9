use Rattle.std.proofs.Common.{length}
use Rattle.coniks_threads.specs.Pools.{AreGone, ArePlaced}
use Rattle.coniks_threads.proofs.pool.collect.Given as goal

abbrev pub invariant-loop-worker : goal.invariant-loop-worker
invariant-loop-worker g l = record {
  gone : AreGone l.fn.claims (g.W.Work.part l.work) (length l.fn.pool.items) l.pool.items l.drawers.items;
  placed : ArePlaced (g.W.Work.part l.work) (length l.fn.placed) l.drawers.items l.placed;
}

abbrev pub decreases-loop-worker : goal.decreases-loop-worker
decreases-loop-worker g l = length l.pool.items
