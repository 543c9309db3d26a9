use Rattle.std.proofs.Common.{◌-◌, arith}
use Rattle.coniks_proof.specs.Hashing.{hashing}
use Rattle.coniks_proof.specs.ProofRefs.{listed, owned}
use Rattle.coniks_evidence.proofs.PartingLemmas.{meets_root, meets_up}
use Rattle.coniks_evidence.proofs.parting.parted.Goals as goal

pub loop-level-preserved : goal.loop-level-preserved
loop-level-preserved g c = record {
  within_a = omega (arith, c.loop-level.invariant.within_a);
  within_b = omega (arith, c.loop-level.invariant.within_b);
  meets = meets_up (hashing (g.H.Hash32.digest_of c.args.h.now) c.args.nonce.now.0) c.args.index.now.0 (listed c.args.a.now.siblings) (owned c.args.a.now.end)
      (listed c.args.b.now.siblings) (owned c.args.b.now.end) (c.loop-level.level - 1) c.loop-level.level c.at.result c.at-in-loop-level.result c.loop-level.meeting c.climb-meeting.result
      (omega arith) c.at.ensures c.at-in-loop-level.ensures c.loop-level.invariant.meets c.climb-meeting.ensures;
}

pub returns : goal.returns
returns g c = meets_root (hashing (g.H.Hash32.digest_of c.args.h.now) c.args.nonce.now.0) c.args.index.now.0 (listed c.args.a.now.siblings) (owned c.args.a.now.end)
    (listed c.args.b.now.siblings) (owned c.args.b.now.end) c.loop-level.level c.loop-level.meeting (omega arith) c.loop-level.invariant.meets
