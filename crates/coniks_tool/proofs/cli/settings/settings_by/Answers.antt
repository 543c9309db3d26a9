use Rattle.std.proofs.Common.{rules}
use Rattle.coniks_tool.proofs.cli.settings.settings_by.Goals as goal

pub returns-then-eq-3-clause-choice : goal.returns-then-eq-3-clause-choice
returns-then-eq-3-clause-choice c = search rules

pub returns-clause-choice : goal.returns-clause-choice
returns-clause-choice c = search rules
