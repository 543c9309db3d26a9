use Rattle.coniks_quorum.proofs.TightLemmas.{tight, witness}
use Rattle.coniks_quorum.proofs.laws.tight.Goals as goal

pub returns : goal.returns
returns c = record { witness = witness; tight = tight }
