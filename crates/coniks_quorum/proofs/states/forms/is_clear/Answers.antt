use Rattle.std.proofs.Common.{[]}
use Rattle.coniks_quorum.specs.StateForms.{IsClearAt}
use Rattle.coniks_quorum.specs.Saved.{stored_from, saved_change}
use Rattle.coniks_quorum.proofs.StateLoopLemmas.{all-more, all-there, not_all}
use Rattle.coniks_quorum.proofs.states.forms.is_clear.Goals as goal

pub returns-then-not-is_clear_at : goal.returns-then-not-is_clear_at
returns-then-not-is_clear_at c =
    not_all stored_from (IsClearAt (saved_change c.args.change.now)) c.args.stored.now c.loop-bytes.bytes-index [] c.is_clear_at.result c.loop-bytes-test.true c.is_clear_at.ensures c.if-not-is_clear_at.true

pub loop-bytes-preserved : goal.loop-bytes-preserved
loop-bytes-preserved c =
    all-more stored_from (IsClearAt (saved_change c.args.change.now)) c.args.stored.now c.loop-bytes.bytes-index [] c.is_clear_at.result c.loop-bytes-test.true c.is_clear_at.ensures c.if-not-is_clear_at.false c.loop-bytes.invariant

pub returns : goal.returns
returns c = all-there stored_from (IsClearAt (saved_change c.args.change.now)) c.args.stored.now c.loop-bytes.bytes-index c.loop-bytes-test.false c.loop-bytes.invariant
