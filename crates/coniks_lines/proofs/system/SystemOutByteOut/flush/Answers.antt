use Rattle.std.proofs.Common.{refl}
use Rattle.coniks_lines.proofs.system.SystemOutByteOut.flush.Goals as goal

pub returns-clause-flushes : goal.returns-clause-flushes
returns-clause-flushes g c = refl
