use Rattle.std.proofs.Common.{arith, sym, ap, ◌∙◌, subst, ◌≡◌, ℕ, [], List, ◌∷◌, ◌++◌}
use Rattle.coniks_threads.specs.Places.{numbers, AreParts}
use Rattle.coniks_threads.proofs.PlaceLemmas.{numbers_snoc, parts_snoc}
use Rattle.coniks_threads.specs.Drawers.{Drawing}
use Rattle.coniks_tree.specs.declared.part.Part.{Part}
use Rattle.coniks_threads.proofs.worker.run_worker.Goals as goal

pub loop-job-preserved : goal.loop-job-preserved
loop-job-preserved g c =
    let i = c.loop-job.invariant in
    let d = c.in-Some.ensures.some in
    let part : ℕ → Part → Type 0 = g.W.Work.part c.args.work.now in
    let items : c.push.new.self.items ≡ c.loop-job.worker.done.items ++ (c.in-Some.job, c.in-Ok.part) ∷ [] = c.in-Ok-push.ensures.items in
    record {
      table = ap (λ (x : Drawing). x.table) d.1 ∙ i.table;
      limit = ap (λ (x : Drawing). x.limit) d.1 ∙ i.limit;
      first = ap (λ (x : Drawing). x.first) d.1 ∙ i.first;
      splits = ap (λ (x : Drawing). x.splits) d.1 ∙ i.splits;
      numbers = ap numbers items ∙ numbers_snoc c.loop-job.worker.done.items (c.in-Some.job, c.in-Ok.part)
          ∙ ap (λ (l : List ℕ). l ++ c.in-Some.job ∷ []) i.numbers ∙ sym (ap (λ (x : Drawing). x.list) d.1);
      parts = subst (AreParts part c.args.worker.now.drawer.limit) (sym items)
          (parts_snoc part c.args.worker.now.drawer.limit c.loop-job.worker.done.items (c.in-Some.job, c.in-Ok.part) i.parts (let e = i.limit in let l = d.0 in omega arith) c.in-Ok.ensures);
      failed = i.failed;
    }
