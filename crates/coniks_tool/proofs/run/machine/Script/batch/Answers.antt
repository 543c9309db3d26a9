use Rattle.std.proofs.Common.{rules}
use Rattle.coniks_tool.proofs.run.machine.Script.batch.Goals as goal

pub returns-in-Whole : goal.returns-in-Whole
returns-in-Whole g c = search rules
