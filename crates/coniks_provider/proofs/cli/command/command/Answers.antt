use Rattle.std.proofs.Common.{◌≡◌, codes, pos, rules}
use Rattle.std.proofs.lemmas.Result.{IfOk-weaker}
use Rattle.clap.specs.Words.{with_rule}
use Rattle.clap.specs.declared.builder.value_parser.ValueParser.TheVariants as parser
use Rattle.coniks_programs.specs.Commands.{number_rule}
use Rattle.coniks_provider.specs.Command.{depth_rule, replay_rule, top, workers_rule}
use Rattle.coniks_provider.proofs.cli.command.command.Goals as goal

pub returns : goal.returns
returns c =
    let many : c.range-many.result ≡ parser.Signed (pos 1) (pos 64) = search rules in
    let deep : c.range-deep.result ≡ parser.Signed (pos 0) (pos 12) = search rules in
    let workers = c.number_option-workers.ensures (pos 1) (pos 64) many in
    let depth = c.with_default.ensures (number_rule (codes "depth") (pos 0) (pos 12)) (c.number_option-depth.ensures (pos 0) (pos 12) deep) in
    let crewed = c.with_option-with_workers.ensures top workers_rule c.bare_command.ensures workers in
    let deeper = c.with_option-with_depth.ensures (with_rule top workers_rule) depth_rule crewed depth in
    let whole = c.with_option.ensures (with_rule (with_rule top workers_rule) depth_rule) replay_rule deeper c.replay_option.ensures in
    IfOk-weaker c.with_option.result _ _ (λ command is. is.0) whole
