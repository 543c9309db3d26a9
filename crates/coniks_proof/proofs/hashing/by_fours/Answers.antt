use Rattle.std.proofs.Common.{flat_map}
use Rattle.sha2.specs.Sha256.{sha256}
use Rattle.coniks_proof.proofs.EightLemmas.{map_of_eight}
use Rattle.coniks_proof.proofs.hashing.by_fours.Goals as goal

pub returns : goal.returns
returns c = map_of_eight (λ pieces. sha256 (flat_map (λ piece. piece.now) pieces.now)) c.args.messages.now _ _ _ _ _ _ _ _ c.told-messages
    c.hash_four.ensures.first c.hash_four.ensures.second c.hash_four.ensures.third c.hash_four.ensures.fourth
    c.hash_four-2.ensures.first c.hash_four-2.ensures.second c.hash_four-2.ensures.third c.hash_four-2.ensures.fourth
