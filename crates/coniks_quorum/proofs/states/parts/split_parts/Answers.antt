use Rattle.coniks_quorum.proofs.StateFrontLemmas.{count-parts, part-small, parts-none, parts_whole}
use Rattle.coniks_quorum.proofs.StateLemmas.{at_none}
use Rattle.coniks_quorum.proofs.states.parts.split_parts.Goals as goal

pub returns-in_err-parts-clause-none : goal.returns-in_err-parts-clause-none
returns-in_err-parts-clause-none g c =
    at_none c.from_residual.result _ c.from_residual.ensures (
    parts-none g.P.Part.one_bytes g.P.FromBytes.one_from g.P.Part.is_part _ c.requires.code c.args.bytes.now c.in_err-parts.ensures.none
    )

pub returns-clause-some : goal.returns-clause-some
returns-clause-some g c =
    let begins = c.in_ok-parts.ensures.some in
    let part = c.in_ok-parts.parts.now in
    parts_whole g.P.Part.one_bytes g.P.FromBytes.one_from g.P.Part.is_part _ c.requires.code c.args.bytes.now part c.in_ok-parts.rest.now begins.0 _
    (part-small _ c.args.bytes.now begins.0 part c.in_ok-parts.rest.now (λ i. (c.type_inv.bytes i).fits) begins.1) begins.1
    (count-parts _ _ _ c.requires.some begins.1.size) c.as_chunks.ensures.front
