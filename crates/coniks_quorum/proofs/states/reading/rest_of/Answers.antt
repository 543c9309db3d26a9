use Rattle.coniks_quorum.proofs.StateReadingLemmas.{body_parts}
use Rattle.coniks_quorum.proofs.states.reading.rest_of.Goals as goal

pub returns : goal.returns
returns c = body_parts c.args.bytes.now c.requires
