use Rattle.std.proofs.Common.{◌≤◌, drop, length}
use Rattle.coniks_proof.specs.Hashing.{hashing}
use Rattle.coniks_proof.specs.ProofRefs.{listed, owned}
use Rattle.coniks_evidence.specs.Parting.{Meets}
use Rattle.coniks_evidence.proofs.parting.parted.Given as goal

abbrev pub invariant-loop-level : goal.invariant-loop-level
invariant-loop-level g l = record {
  within_a : l.level ≤ length (listed l.a.siblings);
  within_b : l.level ≤ length (listed l.b.siblings);
  meets : Meets (hashing (g.H.Hash32.digest_of l.fn.h) l.nonce.0) l.index.0 l.level (drop l.level (listed l.a.siblings)) (owned l.a.end)
      (drop l.level (listed l.b.siblings)) (owned l.b.end) l.meeting;
}

abbrev pub decreases-loop-level : goal.decreases-loop-level
decreases-loop-level g l = l.level
