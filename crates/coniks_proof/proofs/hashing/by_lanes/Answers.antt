use Rattle.std.proofs.Common.{ap}
use Rattle.sha2.specs.Sha256.{sha256}
use Rattle.coniks_proof.proofs.hashing.by_lanes.Goals as goal

pub returns-clause-second : goal.returns-clause-second
returns-clause-second c = rw c.hash_four.ensures (ap sha256 c.in_ok-b.ensures)

pub returns-clause-third : goal.returns-clause-third
returns-clause-third c = rw c.hash_four.ensures (ap sha256 c.in_ok-c.ensures)
