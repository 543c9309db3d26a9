use Rattle.std.proofs.Common.{Some, ap, sym}
use Rattle.coniks_lines.proofs.memory.MemoryOut.bytes.Goals as goal

pub returns : goal.returns
returns c = ap Some (sym c.deref.ensures.value)
