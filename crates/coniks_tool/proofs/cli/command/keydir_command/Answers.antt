use Rattle.std.proofs.Common.{ap}
use Rattle.std.specs.Prelude.{IfOk}
use Rattle.std.proofs.lemmas.Result.{IfOk-weaker}
use Rattle.clap.specs.Words.{App, with_subcommand}
use Rattle.coniks_programs.specs.Commands.{IsCommand}
use Rattle.coniks_tool.specs.Keydir.{audit_app, check_app, keydir, keydir_top, monitor_app, run_app, with_run_and_check}
use Rattle.coniks_tool.proofs.cli.command.keydir_command.Goals as goal

-- the command with its subcommands
made : (c : goal.After-with_below) → IfOk c.with_below.result (IsCommand keydir)
made c =
    let run = c.with_below-with_run.ensures keydir_top run_app c.top_command.ensures c.run_command.ensures in
    let checked = c.with_below-with_check.ensures (with_subcommand keydir_top run_app.top) check_app run c.check_command.ensures in
    let audited = c.with_below-with_audit.ensures with_run_and_check audit_app checked c.audit_command.ensures in
    c.with_below.ensures (with_subcommand with_run_and_check audit_app.top) monitor_app audited c.monitor_command.ensures

pub returns-clause-app : goal.returns-clause-app
returns-clause-app c = IfOk-weaker c.with_below.result _ _ (λ command is. is.0) (made c)

pub returns-clause-local : goal.returns-clause-local
returns-clause-local c = IfOk-weaker c.with_below.result _ _ (λ command is. is.1) (made c)

pub returns-clause-needs : goal.returns-clause-needs
returns-clause-needs c = IfOk-weaker c.with_below.result _ _ (λ command is. ap (λ (a : App). a.top.subcommand_required) is.0) (made c)
