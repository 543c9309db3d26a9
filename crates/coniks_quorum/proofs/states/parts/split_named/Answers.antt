use Rattle.coniks_quorum.proofs.StateNameLemmas.{name-no_count, name-no_key}
use Rattle.coniks_quorum.proofs.StateLemmas.{at_none}
use Rattle.coniks_quorum.proofs.states.parts.split_named.Goals as goal

pub returns-in_err-key-clause-none : goal.returns-in_err-key-clause-none
returns-in_err-key-clause-none c =
    at_none c.from_residual-in_err-key.result _ c.from_residual-in_err-key.ensures (
    name-no_key c.args.bytes.now c.in_ok-name.name.now c.in_ok-name.rest.now c.in_ok-since.rest.now c.in_ok-since.since c.in_ok-name.ensures.whole
    c.in_ok-since.ensures.whole c.in_ok-since.ensures.small c.in_err-key.ensures.none
    )

pub returns-in_err-count-clause-none : goal.returns-in_err-count-clause-none
returns-in_err-count-clause-none c =
    at_none c.from_residual-in_err-count.result _ c.from_residual-in_err-count.ensures (
    name-no_count c.args.bytes.now c.in_ok-name.name.now c.in_ok-name.rest.now c.in_ok-since.rest.now c.in_ok-since.since c.in_ok-name.ensures.whole
    c.in_ok-since.ensures.whole c.in_ok-since.ensures.small c.in_ok-key.key.now c.in_ok-key.rest.now c.in_ok-key.ensures.some
    c.in_err-count.ensures.cut
    )
