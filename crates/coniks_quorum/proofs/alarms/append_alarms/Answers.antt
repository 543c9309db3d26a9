use Rattle.std.proofs.Common.{◌∙◌, ◌+◌, ℕ, List, ap, set, subst, sym, take}
use Rattle.coniks_quorum.specs.Alarms.{IsAppended, alarms_of}
use Rattle.coniks_quorum.specs.declared.alarms.Alarm.{Alarm}
use Rattle.coniks_quorum.proofs.AlarmLemmas.{appended-alarm, appended-nothing, room-for}
use Rattle.coniks_quorum.proofs.alarms.append_alarms.Goals as goal
use Rattle.coniks_quorum.proofs.alarms.append_alarms.Goals.{then-is_alarming, else-is_alarming}

pub set_alarm-requires : goal.set_alarm-requires
set_alarm-requires c =
    room-for c.args.since c.args.dropped.now c.loop-mine.mine-index _ c.loop-mine-test.true c.args.alarms.now c.loop-mine.alarms c.args.count c.loop-mine.end
    (sym c.is_alarming.ensures ∙ c.if-is_alarming.true) c.loop-mine.invariant c.requires

pub loop-mine-preserved : goal.loop-mine-preserved
loop-mine-preserved c = elim c.if-is_alarming.branch [
  | then-is_alarming w ↦
      let is = sym c.is_alarming.ensures ∙ w.if-is_alarming.true in
      let room = room-for c.args.since c.args.dropped.now c.loop-mine.mine-index _ c.loop-mine-test.true c.args.alarms.now c.loop-mine.alarms c.args.count c.loop-mine.end
      is c.loop-mine.invariant c.requires in
      let wrote = w.alarms-is ∙ w.set_alarm.ensures ∙ ap (λ (a : Alarm). set c.loop-mine.alarms c.loop-mine.end a) w.alarm_at.ensures in
      subst (λ (end : ℕ). IsAppended c.args.alarms.now c.if-is_alarming.alarms c.args.count (alarms_of c.args.since (take (c.loop-mine.mine-index + 1) c.args.dropped.now)) end) (sym w.end-is)
      (appended-alarm c.args.since c.args.dropped.now c.loop-mine.mine-index _ c.loop-mine-test.true c.args.alarms.now c.loop-mine.alarms c.if-is_alarming.alarms
      c.args.count c.loop-mine.end is c.loop-mine.invariant room wrote)
  | else-is_alarming w ↦
      subst (λ (out : List Alarm). IsAppended c.args.alarms.now out c.args.count (alarms_of c.args.since (take (c.loop-mine.mine-index + 1) c.args.dropped.now)) c.if-is_alarming.end) (sym w.alarms-is)
      (subst (λ (end : ℕ). IsAppended c.args.alarms.now c.loop-mine.alarms c.args.count (alarms_of c.args.since (take (c.loop-mine.mine-index + 1) c.args.dropped.now)) end) (sym w.end-is)
      (appended-nothing c.args.since c.args.dropped.now c.loop-mine.mine-index _ c.loop-mine-test.true c.args.alarms.now c.loop-mine.alarms c.args.count c.loop-mine.end
      (sym c.is_alarming.ensures ∙ w.if-is_alarming.false) c.loop-mine.invariant))
]
