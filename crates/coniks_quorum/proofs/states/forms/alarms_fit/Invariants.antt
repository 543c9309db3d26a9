use Rattle.std.proofs.Common.{take}
use Rattle.std.specs.List.{All}
use Rattle.coniks_quorum.specs.StateForms.{AlarmFits}
use Rattle.coniks_quorum.specs.Saved.{alarm_from}
use Rattle.coniks_quorum.proofs.states.forms.alarms_fit.Given as goal

abbrev pub invariant-loop-bytes : goal.invariant-loop-bytes
invariant-loop-bytes l = All (λ bytes. AlarmFits l.since (alarm_from bytes)) (take l.bytes-index l.alarms)
