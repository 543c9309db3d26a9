use Rattle.std.proofs.Common.{arith}
use Rattle.std.proofs.lemmas.Grind.{common_steps}
use Rattle.coniks_proof.specs.Bits.{bit_at}
use Rattle.coniks_proof.proofs.bits.bit_of.Goals as goal

pub returns : goal.returns
unfolding bit_at
returns c = grind (arith, common_steps)
