use Rattle.std.proofs.Common.{refl, arith}
use Rattle.std.proofs.lemmas.Grind.{common_steps}
use Rattle.coniks_lines.proofs.system.SystemOutByteOut.write.Goals as goal

pub returns-then-count-eq0-clause-stalls : goal.returns-then-count-eq0-clause-stalls
returns-then-count-eq0-clause-stalls g c = rw c.if-count-eq0.true refl

pub returns-else-count-eq0-clause-ok : goal.returns-else-count-eq0-clause-ok
returns-else-count-eq0-clause-ok g c = grind (arith, common_steps)
