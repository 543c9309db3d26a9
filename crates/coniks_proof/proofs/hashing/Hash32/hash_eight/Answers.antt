use Rattle.std.proofs.Common.{flat_map}
use Rattle.coniks_proof.proofs.EightLemmas.{map_of_eight}
use Rattle.coniks_proof.proofs.hashing.Hash32.hash_eight.Goals as goal

pub returns : goal.returns
returns g c = map_of_eight (λ pieces. g.Self.Hash32.digest_of c.args.self.now (flat_map (λ piece. piece.now) pieces.now)) c.args.messages.now _ _ _ _ _ _ _ _ c.told-messages
    c.hash.ensures c.hash-2.ensures c.hash-3.ensures c.hash-4.ensures c.hash-5.ensures c.hash-6.ensures c.hash-7.ensures c.hash-8.ensures
