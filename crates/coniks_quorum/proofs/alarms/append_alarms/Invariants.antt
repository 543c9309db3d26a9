use Rattle.std.proofs.Common.{take}
use Rattle.coniks_quorum.specs.Alarms.{IsAppended, alarms_of}
use Rattle.coniks_quorum.proofs.alarms.append_alarms.Given as goal

abbrev pub invariant-loop-mine : goal.invariant-loop-mine
invariant-loop-mine l = IsAppended l.initial.alarms l.alarms l.count (alarms_of l.since (take l.mine-index l.dropped)) l.end
