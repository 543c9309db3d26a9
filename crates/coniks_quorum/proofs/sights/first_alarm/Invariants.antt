use Rattle.coniks_quorum.specs.Sights.{AlarmsNoneTo}
use Rattle.coniks_quorum.proofs.sights.first_alarm.Given as goal

abbrev pub invariant-loop-alarm : goal.invariant-loop-alarm
invariant-loop-alarm l = AlarmsNoneTo l.view l.sight l.alarm-index
