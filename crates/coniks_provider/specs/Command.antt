-- The command line of the program, as `clap`'s definitions see it.
use Rattle.std.specs.Prelude.{List, codes, pos, Bool, true, false, [], ◌∷◌, Some}
use Rattle.std.specs.Option.{option_map_or}
use Rattle.std.specs.Str.{bytes_eq}
use Rattle.coniks_proof.specs.Octets.{Octets}
use Rattle.clap.specs.Words.{App, Row, Rule, first_of, matches_of, new_app, new_rule, with_rule}
use Rattle.clap.specs.Simple.{on_top}
use Rattle.clap.specs.declared.builder.action.ArgAction.TheVariants as action
use Rattle.coniks_programs.specs.Commands.{number_rule}

-- `--workers`, a number from 1 to 64
abbrev pub workers_rule : Rule
workers_rule = number_rule (codes "workers") (pos 1) (pos 64)

-- `--depth`, a number from 0 to 12, and 12 if it isn't given
abbrev pub depth_rule : Rule
depth_rule = record (number_rule (codes "depth") (pos 0) (pos 12)) { defaults = codes "12" ∷ [] }

-- `--replay`
abbrev pub replay_rule : Rule
replay_rule = record (new_rule (codes "replay")) { long = Some (codes "replay"); action = Some action.SetTrue }

-- the command without its options; it has a version
abbrev pub top : App
top = on_top (λ shape. record shape { has_version = true }) (new_app (codes "provider"))

-- the command with its options
abbrev pub provider : App
provider = with_rule (with_rule (with_rule top workers_rule) depth_rule) replay_rule

-- the flag of this name is set
abbrev pub has_flag : List Row → Octets → Bool
has_flag rows name = option_map_or (λ value. bytes_eq value (codes "true")) (first_of name rows) false

-- the words have `--replay`
abbrev pub is_replay : List Octets → Bool
is_replay words = has_flag (matches_of provider words) (codes "replay")
