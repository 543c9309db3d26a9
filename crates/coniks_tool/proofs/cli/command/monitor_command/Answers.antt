use Rattle.std.proofs.Common.{codes}
use Rattle.clap.specs.Words.{new_app, with_rule}
use Rattle.coniks_tool.specs.Keydir.{expect_rule, key_rule, name_rule}
use Rattle.coniks_tool.proofs.cli.command.monitor_command.Goals as goal

pub returns : goal.returns
returns c =
    let keyed = c.with_option-with_key.ensures (new_app (codes "monitor")) key_rule c.command-bare.ensures c.key_option.ensures in
    let named = c.with_option-with_name.ensures (with_rule (new_app (codes "monitor")) key_rule) name_rule keyed c.text_option-name.ensures in
    c.with_option.ensures (with_rule (with_rule (new_app (codes "monitor")) key_rule) name_rule) expect_rule named c.text_option-expect.ensures
