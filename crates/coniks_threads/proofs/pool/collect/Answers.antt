use Rattle.std.proofs.Common.{sym, ◌∙◌, subst, ◌≡◌, ℕ, length}
use Rattle.coniks_threads.specs.Pools.{AllFinished}
use Rattle.coniks_threads.specs.Places.{AreParts}
use Rattle.coniks_tree.specs.declared.part.Part.{Part}
use Rattle.coniks_threads.proofs.PoolLemmas.{finished_front, gone_next, placed_next}
use Rattle.coniks_threads.proofs.pool.collect.Goals as goal

pub place-requires-clause-parts : goal.place-requires-clause-parts
place-requires-clause-parts g c =
    let part : ℕ → Part → Type 0 = g.W.Work.part c.args.work.now in
    let f = finished_front c.args.claims part c.pop.new.self.items c.in-Some.worker (subst (AllFinished c.args.claims part) c.in-Some.ensures.items c.loop-worker.invariant.gone.rest) in
    let n : c.args.claims.limit ≡ length c.loop-worker.placed = sym (c.loop-worker.invariant.placed.len ∙ c.requires.len.0) in
    subst (λ (k : ℕ). AreParts part k c.in-Some.worker.done.items) n f.1.parts

pub loop-worker-preserved : goal.loop-worker-preserved
loop-worker-preserved g c =
    let part : ℕ → Part → Type 0 = g.W.Work.part c.args.work.now in
    let i = c.loop-worker.invariant in
    let f = finished_front c.args.claims part c.pop.new.self.items c.in-Some.worker (subst (AllFinished c.args.claims part) c.in-Some.ensures.items i.gone.rest) in
    let fine = c.if-failed.false in
    record {
      gone = gone_next c.args.claims part _ c.pop.new.self.items c.loop-worker.pool.items c.in-Some.worker c.loop-worker.drawers.items c.push.new.self.items
          c.in-Some.ensures.items c.in_ok-push.ensures.items i.gone fine;
      placed = placed_next part _ c.in-Some.worker c.loop-worker.drawers.items c.push.new.self.items c.loop-worker.placed c.place.new.placed
          c.in_ok-push.ensures.items i.placed (f.1.all fine).0 c.place.ensures.places c.place.ensures.len;
    }
