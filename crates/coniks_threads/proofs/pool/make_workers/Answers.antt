use Rattle.std.proofs.Common.{rules, arith, sym, ap, subst, ◌≡◌, [], true, false, length, List}
use Rattle.coniks_threads.specs.Drawers.{drawing, Drawing, HasFirst}
use Rattle.coniks_threads.specs.declared.worker.Worker.{Worker}
use Rattle.coniks_threads.specs.Pools.{drawers_of}
use Rattle.coniks_threads.proofs.PoolLemmas.{first_last}
use Rattle.coniks_threads.proofs.pool.make_workers.Goals.{else-loop-hired-test, then-loop-hired-test+in_default}
use Rattle.coniks_threads.proofs.pool.make_workers.Goals as goal

pub loop-hired-init : goal.loop-hired-init
loop-hired-init c = record { first_is = search rules; few = grind arith; fresh = search rules }

pub returns-clause-first : goal.returns-clause-first
returns-clause-first c =
    let f : c.loop-hired-test.first ≡ drawing c.args.claims.now.table c.args.claims.now.limit [] false true (length c.loop-hired.pool.items) =
    elim c.loop-hired-test.branch [ else-loop-hired-test w ↦ search rules | then-loop-hired-test+in_default w ↦ search rules ] in
    let items = c.in_ok-push-2.ensures.items in
    let n = c.in_ok-push-2.ensures.len in
    subst (λ (ws : List Worker). HasFirst (drawers_of ws) (length c.push-2.new.self.items)) (sym items)
    (first_last c.loop-hired.pool.items _ _ (ap (λ (d : Drawing). d.first) f) (let e = ap (λ (d : Drawing). d.splits) f in omega arith))
