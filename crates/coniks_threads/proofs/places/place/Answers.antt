use Rattle.std.proofs.Common.{arith, sym, ap, ◌∙◌, subst, ℕ, length, List, Option}
use Rattle.coniks_tree.specs.declared.part.Part.{Part}
use Rattle.coniks_threads.specs.Places.{numbers, AreParts, Places}
use Rattle.coniks_threads.proofs.PlaceLemmas.{parts_front, numbers_snoc, place_next}
use Rattle.coniks_threads.proofs.places.place.Goals as goal

pub put-requires : goal.put-requires
put-requires g c =
    let part : ℕ → Part → Type 0 = g.W.Work.part c.args.work.now in
    let i = c.loop-job.invariant in
    let f = parts_front part (length c.args.placed.now) c.pop.new.self.items (c.in-Some.job, c.in-Some.part) (subst (AreParts part (length c.args.placed.now)) c.in-Some.ensures.items i.parts) in
    let l = i.len in let few = c.requires.few in
    (omega (arith, f.1), omega arith)

pub loop-job-preserved : goal.loop-job-preserved
loop-job-preserved g c =
    let part : ℕ → Part → Type 0 = g.W.Work.part c.args.work.now in
    let i = c.loop-job.invariant in
    let f = parts_front part (length c.args.placed.now) c.pop.new.self.items (c.in-Some.job, c.in-Some.part) (subst (AreParts part (length c.args.placed.now)) c.in-Some.ensures.items i.parts) in
    let l = i.len in
    let e = c.put.ensures in
    record {
      len = ap length e ∙ Rattle.std.proofs.Math.ListN.length-set c.loop-job.placed c.in-Some.job _ ∙ l;
      parts = f.0;
      places = subst (λ (p : List (Option Part)). Places part c.args.placed.now p (numbers c.args.done.items) (numbers c.pop.new.self.items)) (sym e)
          (place_next part c.args.placed.now c.loop-job.placed (numbers c.args.done.items) (numbers c.loop-job.done.items) (numbers c.pop.new.self.items) c.in-Some.job c.in-Some.part
          (ap numbers c.in-Some.ensures.items ∙ numbers_snoc c.pop.new.self.items (c.in-Some.job, c.in-Some.part)) i.places (omega (arith, f.1)) f.2);
    }
