use Rattle.std.proofs.Common.{rules}
use Rattle.coniks_tool.proofs.check.machine.reply.Goals as goal

pub returns-clause-accepted : goal.returns-clause-accepted
returns-clause-accepted c = search rules
