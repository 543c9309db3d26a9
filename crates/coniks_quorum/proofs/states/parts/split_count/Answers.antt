use Rattle.coniks_quorum.proofs.StateByteLemmas.{count_whole}
use Rattle.coniks_quorum.proofs.states.parts.split_count.Goals as goal

pub returns-clause-whole : goal.returns-clause-whole
returns-clause-whole c =
    count_whole c.args.bytes.now c.in_ok-count.count.now c.in_ok-count.rest.now _ (λ i. (c.type_inv.bytes i).fits) c.in_ok-count.ensures.cases c.from_be_bytes.ensures
