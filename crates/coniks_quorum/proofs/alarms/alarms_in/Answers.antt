use Rattle.std.proofs.Common.{◌∙◌}
use Rattle.coniks_quorum.proofs.AlarmLemmas.{alarms-count}
use Rattle.coniks_quorum.proofs.alarms.alarms_in.Goals as goal

pub returns : goal.returns
returns c = c.alarming.ensures ∙ alarms-count c.args.since c.args.dropped.now
