use Rattle.std.proofs.Common.{ap, ◌∙◌}
use Rattle.coniks_proof.proofs.EightLemmas.{map_of_eight}
use Rattle.coniks_proof.specs.Messages.{preimage_of}
use Rattle.coniks_proof.proofs.messages.eight_hashes.Goals as goal

pub returns : goal.returns
returns g c =
    let hash = g.H.Hash32.digest_of c.args.h.now in
    c.hash_eight.ensures ∙ map_of_eight (λ message. hash (preimage_of c.args.nonce.now.0 message)) c.args.eight.now _ _ _ _ _ _ _ _ c.requires
    (ap hash (c.pieces.ensures ∙ ap (preimage_of c.args.nonce.now.0) c.a-item.is))
    (ap hash (c.pieces-2.ensures ∙ ap (preimage_of c.args.nonce.now.0) c.b-item.is))
    (ap hash (c.pieces-3.ensures ∙ ap (preimage_of c.args.nonce.now.0) c.c-item.is))
    (ap hash (c.pieces-4.ensures ∙ ap (preimage_of c.args.nonce.now.0) c.d-item.is))
    (ap hash (c.pieces-5.ensures ∙ ap (preimage_of c.args.nonce.now.0) c.e-item.is))
    (ap hash (c.pieces-6.ensures ∙ ap (preimage_of c.args.nonce.now.0) c.f-item.is))
    (ap hash (c.pieces-7.ensures ∙ ap (preimage_of c.args.nonce.now.0) c.g-item.is))
    (ap hash (c.pieces-8.ensures ∙ ap (preimage_of c.args.nonce.now.0) c.i-item.is))
