use Rattle.std.proofs.Common.{refl}
use Rattle.coniks_chain.proofs.GuardLemmas.{has-here, none-more, none-all}
use Rattle.coniks_chain.proofs.guard_record.has.Goals as goal

pub returns-then-is_same : goal.returns-then-is_same
returns-then-is_same c = ((λ _. has-here c.args.bodies.now c.loop-place.place _ c.body.result c.args.body.now c.loop-place-test.true c.body.ensures (c.is_same.ensures.0 c.if-is_same.true)), (λ _. refl))

pub loop-place-preserved : goal.loop-place-preserved
loop-place-preserved c = none-more c.args.bodies.now c.loop-place.place _ c.body.result c.args.body.now c.loop-place-test.true c.body.ensures (λ e. let t = c.is_same.ensures.1 e in let f = c.if-is_same.false in cc) c.loop-place.invariant

pub returns : goal.returns
returns c = ((λ impossible. cc), (λ found. absurd (none-all c.args.bodies.now c.args.body.now c.loop-place.place c.loop-place-test.false c.loop-place.invariant found)))
