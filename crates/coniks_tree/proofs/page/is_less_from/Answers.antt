use Rattle.std.proofs.Common.{sym, ◌∙◌, arith}
use Rattle.coniks_tree.proofs.LessLemmas.{less-differ, less-end, less-same}
use Rattle.coniks_tree.proofs.page.is_less_from.Goals as goal

pub returns-then-bit-right : goal.returns-then-bit-right
returns-then-bit-right c =
    sym (less-differ c.loop-at.at c.args.index.now.0 c.args.other.now.0 c.bit.result c.bit-right.result c.loop-at-test.true
    (sym c.bit.ensures) (sym c.bit-right.ensures) c.if-bit-right.true) ∙ c.loop-at.invariant

pub loop-at-preserved : goal.loop-at-preserved
loop-at-preserved c =
    sym (less-same c.loop-at.at c.args.index.now.0 c.args.other.now.0 c.bit.result c.bit-right.result c.loop-at-test.true
    (sym c.bit.ensures) (sym c.bit-right.ensures) c.if-bit-right.false) ∙ c.loop-at.invariant

pub returns : goal.returns
returns c = sym (sym c.loop-at.invariant ∙ less-end c.loop-at.at c.args.index.now.0 c.args.other.now.0 (omega (arith, c.loop-at-test.false)))
