use Rattle.std.proofs.Common.{ap, ◌∙◌}
use Rattle.std.proofs.lemmas.List.Filters.{FiltersInPlace-all}
use Rattle.coniks_chain.specs.Guard.{bodies_in, has_same_before, raw_body}
use Rattle.coniks_chain.proofs.GuardLemmas.{mapped-filter, other-more, rival-more}
use Rattle.coniks_chain.proofs.guard_record.keep_rivals.Goals as goal

pub loop-place-preserved : goal.loop-place-preserved
loop-place-preserved c = elim c.if-has_same_before.branch [
  | goal.then-has_same_before w ↦ rw (w.bodies-is, w.retained-is) (rival-more c.args.body.now c.body.result _ _ _ _ _ _
      c.loop-place.invariant c.loop-place-test.true c.body.ensures c.has_same_before.ensures w.if-has_same_before.true)
  | goal.else-has_same_before w ↦ rw (w.bodies-is, w.retained-is) (other-more c.args.body.now c.body.result _ _ _ _ _ _
      c.loop-place.invariant c.loop-place-test.true c.body.ensures c.has_same_before.ensures w.if-has_same_before.false)
]

pub returns-clause-retained : goal.returns-clause-retained
returns-clause-retained c =
    ap bodies_in (FiltersInPlace-all c.loop-place.invariant c.loop-place-test.false)
    ∙ mapped-filter (has_same_before c.args.body.now) raw_body c.args.bodies.now
