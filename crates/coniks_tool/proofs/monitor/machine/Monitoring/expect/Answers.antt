use Rattle.std.proofs.Common.{rules}
use Rattle.coniks_tool.proofs.monitor.machine.Monitoring.expect.Goals as goal

pub returns-in-Some-clause-state : goal.returns-in-Some-clause-state
returns-in-Some-clause-state c = search rules

pub returns-in-None-clause-reply : goal.returns-in-None-clause-reply
returns-in-None-clause-reply c = search rules

pub returns-in-None-clause-state : goal.returns-in-None-clause-state
returns-in-None-clause-state c = search rules
