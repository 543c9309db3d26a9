use Rattle.std.proofs.Common.{arith}
use Rattle.coniks_quorum.proofs.ConfirmLemmas.{best-more, greatest, none_later, passed-more}
use Rattle.coniks_quorum.proofs.marks.confirmed.Goals as goal

pub loop-mark-preserved : goal.loop-mark-preserved
loop-mark-preserved c = record {
  enough = best-more c.args.marks.now c.args.quorum c.loop-mark.best c.better-best.result _ c.better-best.ensures c.loop-mark.invariant.enough;
  passed = passed-more c.args.marks.now c.args.quorum c.loop-mark.best c.better-best.result c.loop-mark.mark-index _ c.better-best.ensures.no_less (omega arith) c.better-best.ensures.passed c.loop-mark.invariant.passed;
}

pub returns-then-best-eq0-clause-none : goal.returns-then-best-eq0-clause-none
returns-then-best-eq0-clause-none c = λ epoch above.
    none_later c.args.marks.now c.args.quorum c.loop-mark.best c.loop-mark.mark-index c.requires (omega arith) c.loop-mark.invariant.passed epoch (omega arith)

pub returns-else-best-eq0-clause-some : goal.returns-else-best-eq0-clause-some
returns-else-best-eq0-clause-some c =
    greatest c.args.marks.now c.args.quorum c.loop-mark.best c.loop-mark.mark-index c.requires (omega arith) c.loop-mark.invariant.passed (omega arith) c.loop-mark.invariant.enough
