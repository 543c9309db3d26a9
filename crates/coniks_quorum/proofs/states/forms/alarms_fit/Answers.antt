use Rattle.std.proofs.Common.{[]}
use Rattle.coniks_quorum.specs.StateForms.{AlarmFits}
use Rattle.coniks_quorum.specs.Saved.{alarm_from}
use Rattle.coniks_quorum.proofs.StateLoopLemmas.{all-more, all-there, not_all}
use Rattle.coniks_quorum.proofs.states.forms.alarms_fit.Goals as goal

pub returns-then-not-alarm_fits : goal.returns-then-not-alarm_fits
returns-then-not-alarm_fits c =
    not_all alarm_from (AlarmFits c.args.since) c.args.alarms.now c.loop-bytes.bytes-index [] c.alarm_fits.result c.loop-bytes-test.true c.alarm_fits.ensures c.if-not-alarm_fits.true

pub loop-bytes-preserved : goal.loop-bytes-preserved
loop-bytes-preserved c =
    all-more alarm_from (AlarmFits c.args.since) c.args.alarms.now c.loop-bytes.bytes-index [] c.alarm_fits.result c.loop-bytes-test.true c.alarm_fits.ensures c.if-not-alarm_fits.false c.loop-bytes.invariant

pub returns : goal.returns
returns c = all-there alarm_from (AlarmFits c.args.since) c.args.alarms.now c.loop-bytes.bytes-index c.loop-bytes-test.false c.loop-bytes.invariant
