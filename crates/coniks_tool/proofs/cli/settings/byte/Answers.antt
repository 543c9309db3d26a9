use Rattle.std.proofs.Common.{◌∙◌}
use Rattle.clap.proofs.WalkLemmas.{byte_read}
use Rattle.coniks_tool.proofs.cli.settings.byte.Goals as goal

pub returns : goal.returns
returns c = c.unwrap_or.ensures ∙ byte_read c.args.text.now c.parse.result c.parse.ensures.value.0
