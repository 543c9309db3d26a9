use Rattle.std.proofs.Common.{rules, arith, sym, ap, ◌∙◌, subst, ◌≡◌, ℕ, length, List, Option}
use Rattle.coniks_tree.specs.declared.part.Part.{Part}
use Rattle.coniks_threads.specs.Places.{StandsAt}
use Rattle.coniks_threads.proofs.PoolLemmas.{pool_ended, written}
use Rattle.coniks_threads.proofs.pool.all_parts.Goals as goal

pub collect-requires-clause-parts : goal.collect-requires-clause-parts
collect-requires-clause-parts g c =
    (pool_ended c.in-Ok.claims (g.W.Work.part c.args.work.now) c.as_mut_slice.result.now c.in-Ok-make_workers.pool.items c.run_workers.new.pool c.in-Ok-make_workers.pool.len
    c.as_mut_slice.ensures.value c.run_workers.ensures.len (search rules) c.in-Ok-make_workers.ensures.fresh c.in-Ok-make_workers.ensures.first c.run_workers.ensures.all).0

pub collect-requires-clause-first : goal.collect-requires-clause-first
collect-requires-clause-first g c =
    (pool_ended c.in-Ok.claims (g.W.Work.part c.args.work.now) c.as_mut_slice.result.now c.in-Ok-make_workers.pool.items c.run_workers.new.pool c.in-Ok-make_workers.pool.len
    c.as_mut_slice.ensures.value c.run_workers.ensures.len (search rules) c.in-Ok-make_workers.ensures.fresh c.in-Ok-make_workers.ensures.first c.run_workers.ensures.all).1

pub unwrapped-requires : goal.unwrapped-requires
unwrapped-requires g c j less =
    let part : ℕ → Part → Type 0 = g.W.Work.part c.args.work.now in
    let vs = c.in_ok-placed.placed.items in
    let ws = c.collect.new.placed in
    let was : c.as_mut_slice-2.result.now ≡ vs = c.as_mut_slice-2.ensures.value in
    let len : length ws ≡ length vs = c.in_ok-collect.ensures.len ∙ ap length was in
    let k : c.in_ok-placed.placed.len ≡ length vs = search rules in
    let now : c.as_mut_slice-3.result.now ≡ ws = c.as_mut_slice-3.ensures.value ∙ written ws vs c.in_ok-placed.placed.len len k in
    let n : length vs ≡ c.jobs-count.result = c.in_ok-placed.ensures in
    let m : c.in-Ok.claims.limit ≡ c.jobs-count.result = search rules in
    let l : length c.as_mut_slice-3.result.now ≡ length ws = ap length now in
    subst (λ (p : List (Option Part)). StandsAt part p j) (sym now) (c.in_ok-collect.ensures.stand j (omega arith))
