use Rattle.std.proofs.Common.{arith}
use Rattle.coniks_quorum.specs.Marks.{unmarked}
use Rattle.coniks_quorum.proofs.AgainLemmas.{unmark-more}
use Rattle.coniks_quorum.proofs.marks.unmark_each.Goals as goal

pub loop-place-preserved : goal.loop-place-preserved
loop-place-preserved c =
    let it = unmark-more (unmarked c.args.epoch) c.loop-place.marks c.args.marks.now c.loop-place.place c.unmarked.result _
    (omega (arith, c.loop-place-test.true, c.loop-place.auto.place-end, c.loop-place.invariant.size))
    c.loop-place.invariant.size c.loop-place.invariant.rest c.loop-place.invariant.done c.unmarked.ensures in
    record { size = it.0; rest = it.1; done = it.2 }
