use Rattle.std.proofs.Common.{rules}
use Rattle.coniks_proof.proofs.paths.Proof.bytes.Goals as goal

pub returns-clause-written : goal.returns-clause-written
returns-clause-written c = search rules
