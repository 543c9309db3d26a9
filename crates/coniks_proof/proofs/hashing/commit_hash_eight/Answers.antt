use Rattle.std.proofs.Common.{ap, ◌∙◌}
use Rattle.coniks_proof.proofs.EightLemmas.{map_of_eight}
use Rattle.coniks_proof.proofs.hashing.commit_hash_eight.Goals as goal

pub returns : goal.returns
returns g c =
    let hash = g.H.Hash32.digest_of c.args.h.now in
    c.hash_eight.ensures ∙ map_of_eight hash c.args.preimages.now _ _ _ _ _ _ _ _ c.type_inv.preimages
    (ap hash c.pieces.ensures) (ap hash c.pieces-2.ensures) (ap hash c.pieces-3.ensures) (ap hash c.pieces-4.ensures) (ap hash c.pieces-5.ensures) (ap hash c.pieces-6.ensures) (ap hash c.pieces-7.ensures) (ap hash c.pieces-8.ensures)
