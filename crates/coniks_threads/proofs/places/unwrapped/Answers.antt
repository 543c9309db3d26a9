use Rattle.std.proofs.Common.{arith, sym, ◌∙◌, subst, ℕ}
use Rattle.coniks_tree.specs.declared.part.Part.{Part}
use Rattle.coniks_threads.specs.Places.{AllFrom}
use Rattle.coniks_threads.proofs.PlaceLemmas.{all_snoc, stand_after, same_there}
use Rattle.coniks_threads.proofs.places.unwrapped.Goals as goal

pub loop-j-preserved : goal.loop-j-preserved
loop-j-preserved g c =
    let part : ℕ → Part → Type 0 = g.W.Work.part c.args.work.now in
    let i = c.loop-j.invariant in
    let same = i.same in
    let s = i.stand c.loop-j.j (omega arith) (omega arith) in
    record {
      same = Rattle.std.proofs.Math.ListN.length-set c.loop-j.placed c.loop-j.j _ ∙ i.same;
      stand = λ k le less. stand_after part c.loop-j.placed c.loop-j.j k _ (λ e. omega arith) (i.stand k (omega arith) less);
      all = subst (AllFrom part 0) (sym c.in_ok-push.ensures.items)
          (all_snoc part 0 c.loop-j.j c.loop-j.parts.items _ i.all (let l = i.len in omega arith)
          (subst (part c.loop-j.j) (same_there c.loop-j.placed c.loop-j.j c.index-placed-j.result s.0 c.in-Some.part
          (omega arith) s.1 c.index-placed-j.is (c.index-placed-j.is ∙ (sym c.take.ensures.value ∙ c.in-Some.is))) s.2));
      len = grind (arith, Rattle.std.proofs.lemmas.Grind.common_steps);
    }
