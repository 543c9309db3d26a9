use Rattle.std.proofs.Common.{refl}
use Rattle.coniks_lines.proofs.memory.MemoryIn.new.Goals as goal

pub returns-clause-left : goal.returns-clause-left
returns-clause-left c = refl
