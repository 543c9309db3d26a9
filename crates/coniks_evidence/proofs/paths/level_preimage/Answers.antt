use Rattle.std.proofs.Common.{◌-◌, arith}
use Rattle.coniks_proof.specs.Hashing.{hashing}
use Rattle.coniks_proof.specs.ProofRefs.{listed, owned}
use Rattle.coniks_evidence.proofs.PartingLemmas.{node_up}
use Rattle.coniks_evidence.proofs.paths.level_preimage.Goals as goal

pub loop-place-preserved : goal.loop-place-preserved
loop-place-preserved g c = record {
  above = omega arith;
  within = omega (arith, c.loop-place.invariant.within);
  node = node_up (hashing (g.H.Hash32.digest_of c.args.h.now) c.args.spot.now.nonce.0) c.args.spot.now.index.0 (listed c.args.path.now.siblings) (owned c.args.path.now.end)
      (c.loop-place.place - 1) c.loop-place.place c.at.result c.bit.result c.loop-place.node c.hash-below.result.0 _ (omega arith) c.at.ensures c.loop-place.invariant.node
      c.hash-below.ensures c.bit.ensures c.joined-node.ensures;
}
