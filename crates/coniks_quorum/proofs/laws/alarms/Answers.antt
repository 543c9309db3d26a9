use Rattle.coniks_quorum.proofs.AlarmLemmas.{log}
use Rattle.coniks_quorum.proofs.ReportingLemmas.{logged}
use Rattle.coniks_quorum.proofs.laws.alarms.Goals as goal

pub returns : goal.returns
returns c = record { log = log; logged = logged }
