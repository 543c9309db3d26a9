use Rattle.std.proofs.Common.{◌≡◌, codes, pos, rules}
use Rattle.clap.specs.Words.{new_app, with_rule}
use Rattle.clap.specs.declared.builder.value_parser.ValueParser.TheVariants as parser
use Rattle.coniks_programs.specs.Commands.{number_rule}
use Rattle.coniks_tool.specs.Keydir.{depth_rule, workers_rule}
use Rattle.coniks_tool.proofs.cli.command.run_command.Goals as goal

pub returns : goal.returns
returns c =
    let many : c.range-many.result ≡ parser.Signed (pos 1) (pos 64) = search rules in
    let deep : c.range-deep.result ≡ parser.Signed (pos 0) (pos 12) = search rules in
    let workers = c.with_default.ensures (number_rule (codes "workers") (pos 1) (pos 64)) (c.number_option-workers.ensures (pos 1) (pos 64) many) in
    let depth = c.with_default-2.ensures (number_rule (codes "depth") (pos 0) (pos 12)) (c.number_option-depth.ensures (pos 0) (pos 12) deep) in
    let crewed = c.with_option-with_workers.ensures (new_app (codes "run")) workers_rule c.command-bare.ensures workers in
    c.with_option.ensures (with_rule (new_app (codes "run")) workers_rule) depth_rule crewed depth
