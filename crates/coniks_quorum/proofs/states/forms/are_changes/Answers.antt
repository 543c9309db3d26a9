use Rattle.std.proofs.Common.{map}
use Rattle.coniks_quorum.specs.Saved.{stored_from, saved_change}
use Rattle.coniks_quorum.proofs.StateChangeLemmas.{leaves-cut, leaves-more, leaves-none, leaves-other, none_is}
use Rattle.coniks_quorum.proofs.states.forms.are_changes.Goals as goal

pub returns-in_default : goal.returns-in_default
returns-in_default c =
    leaves-cut (map stored_from c.args.stored.now) 0 c.args.named.now.count c.args.named.now.key.now c.args.bytes.now c.loop-place.from c.loop-place._place
    c.loop-place.key.now c.loop-place.rest.now c.loop-place.invariant c.loop-place-test.true c.in_default.ensures.none

pub returns-then-not-may_follow : goal.returns-then-not-may_follow
returns-then-not-may_follow c =
    leaves-other (map stored_from c.args.stored.now) 0 c.args.named.now.count c.args.named.now.key.now c.args.bytes.now c.loop-place.from c.loop-place._place
    c.loop-place.key.now c.loop-place.rest.now c.loop-place.invariant (saved_change c.in-Some.change) c.in-Some.after.now c.may_follow.result c.loop-place-test.true
    c.in-Some.ensures.some c.may_follow.ensures c.if-not-may_follow.true

pub loop-place-preserved : goal.loop-place-preserved
loop-place-preserved c =
    leaves-more (map stored_from c.args.stored.now) 0 c.args.named.now.count c.args.named.now.key.now c.args.bytes.now c.loop-place.from c.loop-place._place
    c.loop-place.key.now c.loop-place.rest.now c.loop-place.invariant (saved_change c.in-Some.change) c.in-Some.after.now c.loop-place-test.true
    c.in-Some.ensures.some (c.may_follow.ensures.0 c.if-not-may_follow.false)

pub returns : goal.returns
returns c =
    leaves-none (map stored_from c.args.stored.now) 0 c.args.named.now.count c.args.named.now.key.now c.args.bytes.now c.loop-place.from c.loop-place._place
    c.loop-place.key.now c.loop-place.rest.now c.loop-place.invariant c.is_empty.result c.loop-place-test.false (none_is c.loop-place.rest.now c.is_empty.result c.is_empty.ensures)
