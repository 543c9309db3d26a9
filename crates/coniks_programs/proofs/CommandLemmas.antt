-- A command with one more subcommand, or one more option.
use Rattle.std.proofs.Common.{◌∙◌, ◌||◌, ap, Bool}
use Rattle.clap.specs.Words.{App, AddsArg, AddsSubcommand, Rule, rule_of, shape_of, with_rule, with_subcommand}
use Rattle.clap.specs.declared.builder.arg.Arg.{Arg}
use Rattle.clap.specs.declared.builder.command.Command.{Command}
use Rattle.clap.specs.declared.builder.command.Command.TheViews.{out-Command as fields_of}
use Rattle.coniks_programs.specs.Commands.{IsCommand, IsOption}

-- the command's app is the earlier one with the subcommand's app added
pub adds-subcommand : (old sub new : Command) (before below : App) → AddsSubcommand old sub new → IsCommand before old → IsCommand below sub → IsCommand (with_subcommand before below.top) new
adds-subcommand old sub new before below adds was is = (
  adds.shape is.1 ∙ ap (λ (a : App). with_subcommand a (shape_of sub)) was.0 ∙ ap (λ (a : App). with_subcommand before a.top) is.0,
  adds.globals ∙ ap (λ (b : Bool). b || (fields_of sub).has_globals) was.1 ∙ is.1,
)

-- the command's app is the earlier one with the option's rule added
pub adds-option : (old : Command) (option : Arg) (new : Command) (before : App) (rule : Rule)
    → AddsArg old option new → IsCommand before old → IsOption rule option → IsCommand (with_rule before rule) new
adds-option old option new before rule adds was is = (
  adds.shape is.1 ∙ ap (λ (a : App). with_rule a (rule_of option)) was.0 ∙ ap (λ (r : Rule). with_rule before r) is.0,
  adds.globals ∙ ap (λ (b : Bool). b || option.global) was.1 ∙ is.1,
)
