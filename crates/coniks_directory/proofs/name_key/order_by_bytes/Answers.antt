use Rattle.std.proofs.Common.{◌∙◌, arith}
use Rattle.coniks_directory.proofs.NameLemmas.{ended}
use Rattle.coniks_directory.proofs.name_key.order_by_bytes.Goals as goal

pub returns : goal.returns
returns c = c.cmp-2.ensures ∙ ended c.args.a.now c.args.b.now c.loop-at.at (omega (arith, c.min-at-end.ensures, c.loop-at.auto, c.loop-at-test.false)) ∙ c.loop-at.invariant
