use Rattle.std.proofs.lemmas.Result.{IfOk-weaker}
use Rattle.coniks_programs.proofs.CommandLemmas.{adds-option}
use Rattle.coniks_programs.proofs.cli.commands.with_option.Goals as goal

pub returns : goal.returns
returns c = λ before rule was is.
    let old = rw c.in_ok-command.was at was in
    IfOk-weaker c.arg.result _ _ (λ command adds. adds-option _ _ command before rule adds old is) c.arg.ensures
