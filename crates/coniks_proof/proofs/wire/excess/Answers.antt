use Rattle.std.proofs.Common.{rules}
use Rattle.coniks_proof.proofs.wire.excess.Goals as goal

pub returns-then-as_slice-from-2 : goal.returns-then-as_slice-from-2
returns-then-as_slice-from-2 c = search rules
