use Rattle.coniks_quorum.proofs.StateByteLemmas.{number_whole}
use Rattle.coniks_quorum.proofs.states.parts.split_number.Goals as goal

pub returns-clause-whole : goal.returns-clause-whole
returns-clause-whole c =
    number_whole c.args.bytes.now c.in_ok-number.number.now c.in_ok-number.rest.now _ (λ i. (c.type_inv.bytes i).fits) c.in_ok-number.ensures.cases c.from_be_bytes.ensures
