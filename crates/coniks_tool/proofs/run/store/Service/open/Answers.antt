use Rattle.std.proofs.Common.{rules}
use Rattle.coniks_tool.proofs.run.store.Service.open.Goals as goal

pub returns-clause-state : goal.returns-clause-state
returns-clause-state c = search rules
