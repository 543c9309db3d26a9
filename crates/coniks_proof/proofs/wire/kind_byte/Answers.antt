use Rattle.std.proofs.Common.{ap, sym}
use Rattle.coniks_proof.specs.Wire.{kind_of}
use Rattle.coniks_proof.proofs.wire.kind_byte.Goals as goal

pub returns-in-Other : goal.returns-in-Other
returns-in-Other c = sym (ap kind_of c.in-Other.is)
