-- The commands and options of `clap`, as its definitions see them.
use Rattle.std.specs.Prelude.{◌≡◌, ℕ, ℤ, List, Some, false}
use Rattle.clap.specs.Words.{App, Rule, app_of, new_rule, rule_of}
use Rattle.clap.specs.declared.builder.arg.Arg.{Arg}
use Rattle.clap.specs.declared.builder.command.Command.{Command}
use Rattle.clap.specs.declared.builder.command.Command.TheViews.{out-Command as fields_of}
use Rattle.clap.specs.declared.builder.value_parser.ValueParser.TheVariants as parser

-- the argument has this rule, and is not global
abbrev pub IsOption : Rule → Arg → Type 0
IsOption rule option = (rule_of option ≡ rule) × (option.global ≡ false)

-- the command has this app, and no global argument
abbrev pub IsCommand : App → Command → Type 0
IsCommand app command = (app_of command ≡ app) × ((fields_of command).has_globals ≡ false)

-- an option with this name, and the range of its number
abbrev pub number_rule : List ℕ → ℤ → ℤ → Rule
number_rule name least most = record (new_rule name) {
  long = Some name;
  value_names = 1;
  parser = Some (parser.Signed least most);
}
