use Rattle.std.proofs.Common.{length}
use Rattle.coniks_proof.specs.Messages.{AreAppended, preimage_of}
use Rattle.coniks_proof.proofs.messages.append_eights.Given as goal

abbrev pub invariant-loop-rest : goal.invariant-loop-rest
invariant-loop-rest g l =
    AreAppended (λ message. g.H.Hash32.digest_of l.h (preimage_of l.nonce.0 message)) l.initial.hashes.items l.hashes.items l.messages l.rest

abbrev pub decreases-loop-rest : goal.decreases-loop-rest
decreases-loop-rest g l = length l.rest
