use Rattle.std.proofs.Common.{arith, sym, subst, ℕ}
use Rattle.coniks_tree.specs.declared.part.Part.{Part}
use Rattle.coniks_threads.specs.Places.{AllFrom}
use Rattle.coniks_threads.proofs.PlaceLemmas.{all_snoc}
use Rattle.coniks_threads.proofs.pool.alone.Goals as goal

pub loop-job-preserved : goal.loop-job-preserved
loop-job-preserved g c =
    let part : ℕ → Part → Type 0 = g.W.Work.part c.args.work.now in
    let i = c.loop-job.invariant in
    record {
      all = subst (AllFrom part 0) (sym c.in-Ok.ensures.items) (all_snoc part 0 c.loop-job.job c.loop-job.parts.items c.in_ok-part.part i.all (let l = i.len in omega arith) c.in_ok-part.ensures);
      len = grind (arith, Rattle.std.proofs.lemmas.Grind.common_steps);
    }
