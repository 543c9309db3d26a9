use Rattle.std.proofs.Common.{codes}
use Rattle.clap.specs.Words.{new_app}
use Rattle.coniks_tool.specs.Keydir.{key_rule}
use Rattle.coniks_tool.proofs.cli.command.audit_command.Goals as goal

pub returns : goal.returns
returns c = c.with_option.ensures (new_app (codes "audit")) key_rule c.command-bare.ensures c.key_option.ensures
