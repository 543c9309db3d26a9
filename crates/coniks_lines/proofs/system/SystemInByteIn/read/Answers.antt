use Rattle.std.proofs.Common.{refl, arith}
use Rattle.std.proofs.lemmas.Grind.{common_steps}
use Rattle.coniks_lines.proofs.system.SystemInByteIn.read.Goals as goal

pub returns-in_default-clause-reads : goal.returns-in_default-clause-reads
returns-in_default-clause-reads g c = refl

pub returns-in_default-clause-failed : goal.returns-in_default-clause-failed
returns-in_default-clause-failed g c = refl

pub returns-then-count-eq0-clause-reads : goal.returns-then-count-eq0-clause-reads
returns-then-count-eq0-clause-reads g c = refl

pub returns-then-count-eq0-clause-none_left : goal.returns-then-count-eq0-clause-none_left
returns-then-count-eq0-clause-none_left g c = grind (arith, common_steps)

pub returns-else-count-eq0-clause-reads : goal.returns-else-count-eq0-clause-reads
returns-else-count-eq0-clause-reads g c = refl
