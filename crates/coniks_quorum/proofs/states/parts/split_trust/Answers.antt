use Rattle.coniks_quorum.proofs.StateByteLemmas.{chunk}
use Rattle.coniks_quorum.proofs.states.parts.split_trust.Goals as goal

pub returns-clause-whole : goal.returns-clause-whole
returns-clause-whole c = (chunk 32 c.args.bytes.now c.in_ok-trust.trust.now c.in_ok-trust.rest.now c.in_ok-trust.ensures.cases).0

pub returns-clause-size : goal.returns-clause-size
returns-clause-size c = (chunk 32 c.args.bytes.now c.in_ok-trust.trust.now c.in_ok-trust.rest.now c.in_ok-trust.ensures.cases).1
