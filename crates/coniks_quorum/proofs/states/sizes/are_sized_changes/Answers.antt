use Rattle.coniks_quorum.specs.StateForms.{IsSizedChange}
use Rattle.coniks_quorum.specs.Saved.{saved_change}
use Rattle.coniks_quorum.proofs.StateLoopLemmas.{all-more, all-there, not_all}
use Rattle.coniks_quorum.proofs.states.sizes.are_sized_changes.Goals as goal

pub returns-then-not-is_sized_change : goal.returns-then-not-is_sized_change
returns-then-not-is_sized_change c =
    not_all saved_change IsSizedChange c.args.changes.now c.loop-change.change-index _ c.is_sized_change.result c.loop-change-test.true c.is_sized_change.ensures
    c.if-not-is_sized_change.true

pub loop-change-preserved : goal.loop-change-preserved
loop-change-preserved c =
    all-more saved_change IsSizedChange c.args.changes.now c.loop-change.change-index _ c.is_sized_change.result c.loop-change-test.true c.is_sized_change.ensures
    c.if-not-is_sized_change.false c.loop-change.invariant

pub returns : goal.returns
returns c = all-there saved_change IsSizedChange c.args.changes.now c.loop-change.change-index c.loop-change-test.false c.loop-change.invariant
