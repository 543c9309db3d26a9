use Rattle.std.proofs.Common.{◌≡◌, ◌≤◌, drop, length}
use Rattle.coniks_proof.specs.Hashing.{hashing}
use Rattle.coniks_proof.specs.ProofRefs.{listed, owned}
use Rattle.coniks_proof.specs.Proofs.{preimage}
use Rattle.coniks_evidence.proofs.paths.level_preimage.Given as goal

-- the node is that of the level that was reached
abbrev pub invariant-loop-place : goal.invariant-loop-place
invariant-loop-place g l = record {
  above : l.spot.level ≤ l.place;
  within : l.place ≤ length (listed l.path.siblings);
  node : l.node ≡ preimage (hashing (g.H.Hash32.digest_of l.fn.h) l.spot.nonce.0) l.spot.index.0 l.place (drop l.place (listed l.path.siblings)) (owned l.path.end);
}

abbrev pub decreases-loop-place : goal.decreases-loop-place
decreases-loop-place g l = l.place
