use Rattle.coniks_c.proofs.CoreStateLemmas.{valid-more}
use Rattle.coniks_c.proofs.core_state.are_valid.Goals as goal

pub loop-place-preserved : goal.loop-place-preserved
loop-place-preserved c = valid-more c.args.verdicts.now c.loop-place.place c.loop-place.invariant (c.is_valid.ensures.0 c.if-not-is_valid.false)
