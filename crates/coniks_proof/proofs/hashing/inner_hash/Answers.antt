use Rattle.std.proofs.Common.{append-nil}
use Rattle.coniks_proof.proofs.hashing.inner_hash.Goals as goal

pub returns : goal.returns
returns g c = rw append-nil at c.hash.ensures
