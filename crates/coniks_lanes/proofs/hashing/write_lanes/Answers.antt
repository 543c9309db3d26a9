use Rattle.std.proofs.Common.{rules, [], arith, map}
use Rattle.sha2.specs.Sha256.{digest_bytes}
use Rattle.coniks_lanes.proofs.FillLemmas.{one_more_set}
use Rattle.coniks_lanes.proofs.hashing.write_lanes.Goals as goal

pub lanes-preserved : goal.lanes-preserved
lanes-preserved g c = (
  search rules,
  one_more_set c.lanes.hashes (λ k. digest_bytes (map (g.W.Words.lane k) c.args.state.now) 8) c.lanes.j c.bytes_of.result [] (omega arith) c.lanes.invariant.1 c.bytes_of.ensures,
)
