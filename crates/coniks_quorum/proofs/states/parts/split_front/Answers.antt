use Rattle.std.proofs.Common.{◌<◌, arith, map}
use Rattle.coniks_quorum.specs.Saved.{alarm_from, stored_from}
use Rattle.coniks_quorum.proofs.StateByteLemmas.{alarm_code, mark_code, stored_code}
use Rattle.coniks_quorum.proofs.StateFrontLemmas.{front-short, front_alarms, front_marks}
use Rattle.coniks_quorum.proofs.StateLemmas.{at_none}
use Rattle.coniks_quorum.proofs.states.parts.split_front.Goals as goal

pub split_parts-requires : goal.split_parts-requires
split_parts-requires c = let some : 0 < 218 = omega arith in let small : 218 < 256 = omega arith in (omega arith, (stored_code, (some, small)))

pub split_parts-requires-2 : goal.split_parts-requires-2
split_parts-requires-2 c = let some : 0 < 9 = omega arith in let small : 9 < 256 = omega arith in (omega arith, (alarm_code, (some, small)))

pub split_parts-requires-3 : goal.split_parts-requires-3
split_parts-requires-3 c = let some : 0 < 8 = omega arith in let small : 8 < 256 = omega arith in (omega arith, (mark_code, (some, small)))

pub returns-in_err-alarms-clause-none : goal.returns-in_err-alarms-clause-none
returns-in_err-alarms-clause-none c = at_none c.from_residual-in_err-alarms.result _ c.from_residual-in_err-alarms.ensures (λ stored alarms trust marks rest begins.
    c.in_err-alarms.ensures.none _ _
    (front_alarms c.args.bytes.now stored alarms trust marks rest begins (map stored_from c.in_ok-stored.stored.now) c.in_ok-stored.rest.now c.in_ok-stored.ensures.some))

pub returns-in_err-trust-clause-none : goal.returns-in_err-trust-clause-none
returns-in_err-trust-clause-none c = at_none c.from_residual-in_err-trust.result _ c.from_residual-in_err-trust.ensures (λ stored alarms trust marks rest begins.
    front-short c.args.bytes.now stored alarms trust marks rest begins (map stored_from c.in_ok-stored.stored.now) c.in_ok-stored.rest.now c.in_ok-stored.ensures.some
    (map alarm_from c.in_ok-alarms.alarms.now) c.in_ok-alarms.rest.now c.in_ok-alarms.ensures.some c.in_err-trust.ensures.cut)

pub returns-in_err-marks-clause-none : goal.returns-in_err-marks-clause-none
returns-in_err-marks-clause-none c = at_none c.from_residual-in_err-marks.result _ c.from_residual-in_err-marks.ensures (λ stored alarms trust marks rest begins.
    c.in_err-marks.ensures.none _ _
    (front_marks c.args.bytes.now stored alarms trust marks rest begins (map stored_from c.in_ok-stored.stored.now) c.in_ok-stored.rest.now c.in_ok-stored.ensures.some
    (map alarm_from c.in_ok-alarms.alarms.now) c.in_ok-alarms.rest.now c.in_ok-alarms.ensures.some
    c.in_ok-trust.trust.now c.in_ok-trust.rest.now c.in_ok-trust.ensures.whole c.in_ok-trust.ensures.size))
