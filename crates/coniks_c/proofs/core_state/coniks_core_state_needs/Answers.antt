use Rattle.std.proofs.Common.{◌∙◌}
use Rattle.coniks_c.proofs.CoreStateLemmas.{alarm-count, change-count, entry-there, stored-count}
use Rattle.coniks_c.proofs.core_state.coniks_core_state_needs.Goals as goal

pub returns-in-Ok-clause-read : goal.returns-in-Ok-clause-read
returns-in-Ok-clause-read c = λ good.
    let ok = c.in-Ok.ensures.ok in (
      ok.0,
      ok.1,
      record {
        stored = stored-count c.in-Ok.parts ok.0 ok.2;
        changes = c.number_of_changes.ensures ∙ change-count c.in-Ok.parts.watch ok.0.watch ok.2.watch;
        alarms = alarm-count c.in-Ok.parts ok.0 ok.2;
        entries = entry-there c.args.core.now.rules.policy.bytes c.args.state.now ok.0 ok.1;
      },
    )
