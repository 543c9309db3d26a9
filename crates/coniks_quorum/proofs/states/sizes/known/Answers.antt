use Rattle.std.specs.List.{All}
use Rattle.std.proofs.Common.{subst}
use Rattle.std.proofs.lemmas.List.{take_all}
use Rattle.std.proofs.lemmas.List.Elements.{All-more}
use Rattle.coniks_quorum.specs.StateForms.{IsStored}
use Rattle.coniks_quorum.proofs.states.sizes.known.Goals as goal

pub loop-mine-preserved : goal.loop-mine-preserved
loop-mine-preserved c = All-more IsStored c.args.stored.now c.loop-mine.mine-index _ c.loop-mine-test.true c.loop-mine.invariant c.known_one.ensures

pub returns : goal.returns
returns c = subst (All IsStored) (take_all c.loop-mine.mine-index c.args.stored.now c.loop-mine-test.false) c.loop-mine.invariant
