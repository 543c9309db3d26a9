use Rattle.std.proofs.Common.{◌≡◌, ◌+◌, ◌≤◌, drop, length}
use Rattle.coniks_proof.specs.Hashing.{hashing}
use Rattle.coniks_proof.specs.ProofRefs.{listed, owned}
use Rattle.coniks_proof.specs.Proofs.{preimage}
use Rattle.coniks_proof.proofs.paths.carried.Given as goal

-- the hash is that of the level that was reached
abbrev pub invariant-loop-place : goal.invariant-loop-place
invariant-loop-place g l = let digest = g.H.Hash32.digest_of l.fn.h in
    (l.place ≤ length (listed l.siblings))
    × (l.hash.0 ≡ digest (preimage (hashing digest l.spot.nonce.0) l.spot.index.0 (l.spot.level + l.place) (drop l.place (listed l.siblings)) (owned l.end)))

abbrev pub decreases-loop-place : goal.decreases-loop-place
decreases-loop-place g l = l.place
