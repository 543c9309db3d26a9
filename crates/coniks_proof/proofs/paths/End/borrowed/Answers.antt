use Rattle.std.proofs.Common.{sym}
use Rattle.coniks_proof.proofs.paths.End.borrowed.Goals as goal

pub returns-in-Here : goal.returns-in-Here
returns-in-Here c = rw (c.as_slice.ensures, c.as_slice-in-Here.ensures) (sym c.in-Here.is)
