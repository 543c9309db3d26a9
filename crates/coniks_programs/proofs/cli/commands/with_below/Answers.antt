use Rattle.std.proofs.lemmas.Result.{IfOk-weaker}
use Rattle.coniks_programs.proofs.CommandLemmas.{adds-subcommand}
use Rattle.coniks_programs.proofs.cli.commands.with_below.Goals as goal

pub returns : goal.returns
returns c = λ before under was is.
    let old = rw c.in_ok-command.was at was in
    let sub = rw c.in_ok-below.was at is in
    IfOk-weaker c.subcommand.result _ _ (λ command adds. adds-subcommand _ _ command before under adds old sub) c.subcommand.ensures
