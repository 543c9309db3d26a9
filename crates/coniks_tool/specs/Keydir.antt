-- The command line of the program, as `clap`'s definitions see it.
use Rattle.std.specs.Prelude.{Bool, codes, pos, false, true, [], ◌∷◌, Some}
use Rattle.coniks_proof.specs.Octets.{Octets}
use Rattle.clap.specs.Words.{App, Rule, new_app, new_rule, with_rule, with_subcommand}
use Rattle.clap.specs.Simple.{on_top}
use Rattle.coniks_programs.specs.Commands.{number_rule}

-- an option of this name, a text, and whether it is required
abbrev pub text_rule : Octets → Bool → Rule
text_rule name required = record (new_rule name) {
  long = Some name;
  value_names = 1;
  required = required;
}

-- `--workers`, a number from 1 to 64
abbrev pub workers_rule : Rule
workers_rule = record (number_rule (codes "workers") (pos 1) (pos 64)) { defaults = codes "1" ∷ [] }

-- `--depth`, a number from 0 to 12
abbrev pub depth_rule : Rule
depth_rule = record (number_rule (codes "depth") (pos 0) (pos 12)) { defaults = codes "0" ∷ [] }

-- `run`, which has workers and a depth
abbrev pub run_app : App
run_app = with_rule (with_rule (new_app (codes "run")) workers_rule) depth_rule

-- `--key`, which is required
abbrev pub key_rule : Rule
key_rule = text_rule (codes "key") true

-- `audit`, which has a key
abbrev pub audit_app : App
audit_app = with_rule (new_app (codes "audit")) key_rule

-- `check`, which has no options
abbrev pub check_app : App
check_app = new_app (codes "check")

-- `--name`, which is required
abbrev pub name_rule : Rule
name_rule = text_rule (codes "name") true

-- `--expect`, which may be left out
abbrev pub expect_rule : Rule
expect_rule = text_rule (codes "expect") false

-- `monitor`, which has a key, a name and an expectation
abbrev pub monitor_app : App
monitor_app = with_rule (with_rule (with_rule (new_app (codes "monitor")) key_rule) name_rule) expect_rule

-- the command itself: it has a version and no options of its own, and a subcommand is required
abbrev pub keydir_top : App
keydir_top = on_top (λ shape. record shape { has_version = true; subcommand_required = true }) (new_app (codes "keydir"))

-- the command with the subcommands that ask for no key
abbrev pub with_run_and_check : App
with_run_and_check = with_subcommand (with_subcommand keydir_top run_app.top) check_app.top

-- the command with its subcommands
abbrev pub keydir : App
keydir = with_subcommand (with_subcommand with_run_and_check audit_app.top) monitor_app.top
