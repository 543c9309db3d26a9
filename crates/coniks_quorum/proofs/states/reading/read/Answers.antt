use Rattle.coniks_quorum.proofs.StateLemmas.{no_fault, read-back, read-none, read_state}
use Rattle.coniks_quorum.proofs.states.reading.read.Goals as goal

pub returns-in-Some-clause-back : goal.returns-in-Some-clause-back
returns-in-Some-clause-back g c = no_fault (g.H.Hash32.digest_of c.args.h.now) c.args.policy.now c.args.bytes.now c.in-Some.fault c.in-Some.ensures.some

pub returns-in-Some-read_parts-clause-ok : goal.returns-in-Some-read_parts-clause-ok
returns-in-Some-read_parts-clause-ok g c =
    read_state (g.H.Hash32.digest_of c.args.h.now) c.args.policy.now c.args.bytes.now c.rest_of.result.now c.in-Some-read_parts.state c.told-policy
    c.in_default.ensures.none c.rest_of.ensures c.in-Some-read_parts.ensures.some

pub returns-in-Some-read_parts-clause-back : goal.returns-in-Some-read_parts-clause-back
returns-in-Some-read_parts-clause-back g c =
    read-back (g.H.Hash32.digest_of c.args.h.now) c.args.policy.now c.args.bytes.now c.in-Some-read_parts.state (
    read_state (g.H.Hash32.digest_of c.args.h.now) c.args.policy.now c.args.bytes.now c.rest_of.result.now c.in-Some-read_parts.state c.told-policy
    c.in_default.ensures.none c.rest_of.ensures c.in-Some-read_parts.ensures.some
    )

pub returns-in-None-clause-err : goal.returns-in-None-clause-err
returns-in-None-clause-err g c =
    read-none (g.H.Hash32.digest_of c.args.h.now) c.args.policy.now c.args.bytes.now c.rest_of.result.now c.in_default.ensures.none c.rest_of.ensures c.in-None.ensures.none

pub returns-in-None-clause-back : goal.returns-in-None-clause-back
returns-in-None-clause-back g c =
    (read-none (g.H.Hash32.digest_of c.args.h.now) c.args.policy.now c.args.bytes.now c.rest_of.result.now c.in_default.ensures.none c.rest_of.ensures
    c.in-None.ensures.none).2
