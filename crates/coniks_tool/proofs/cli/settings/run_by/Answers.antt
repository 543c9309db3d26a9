use Rattle.std.proofs.Common.{rules}
use Rattle.coniks_tool.proofs.cli.settings.run_by.Goals as goal

pub returns-clause-numbers : goal.returns-clause-numbers
returns-clause-numbers c = search rules

pub returns-clause-within : goal.returns-clause-within
returns-clause-within c = search rules
