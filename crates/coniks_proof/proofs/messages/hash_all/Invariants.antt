use Rattle.std.proofs.Common.{◌≡◌, ◌++◌, map, take}
use Rattle.coniks_proof.specs.Messages.{preimage_of}
use Rattle.coniks_proof.proofs.messages.hash_all.Given as goal

abbrev pub invariant-loop-message : goal.invariant-loop-message
invariant-loop-message g l =
    map (λ hash. hash.0) l.hashes.items
    ≡ map (λ hash. hash.0) l.initial.hashes.items ++ map (λ message. g.H.Hash32.digest_of l.h (preimage_of l.nonce.0 message)) (take l.message-index l.rest)
