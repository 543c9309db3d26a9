use Rattle.std.proofs.Common.{rules}
use Rattle.coniks_programs.proofs.proof_object.digest.Goals as goal

pub returns-in-None : goal.returns-in-None
returns-in-None c = search rules
