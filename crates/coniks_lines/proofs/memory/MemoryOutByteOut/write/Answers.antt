use Rattle.std.proofs.Common.{refl, arith}
use Rattle.std.proofs.lemmas.Grind.{common_steps}
use Rattle.coniks_lines.proofs.memory.MemoryOutByteOut.write.Goals as goal

pub returns-then-is_err-clause-failed : goal.returns-then-is_err-clause-failed
returns-then-is_err-clause-failed c = refl

pub returns-clause-ok : goal.returns-clause-ok
returns-clause-ok c = grind (arith, common_steps)
