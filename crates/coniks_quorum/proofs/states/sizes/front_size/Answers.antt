use Rattle.std.proofs.Common.{arith}
use Rattle.coniks_quorum.proofs.StateFrontLemmas.{length-front, sum-front}
use Rattle.coniks_quorum.proofs.StateLemmas.{at_none, none_size, some_size}
use Rattle.coniks_quorum.proofs.states.sizes.front_size.Goals as goal

pub returns-in_err-all-clause-none : goal.returns-in_err-all-clause-none
returns-in_err-all-clause-none c =
    let client = c.args.client.now in
    let stored = c.in_ok-stored.ensures.some in let alarms = c.in_ok-alarms.ensures.some in let marks = c.in_ok-marks.ensures.some in
    let two = c.in_ok-two.ensures.some in let large = c.in_err-all.ensures.none in
    at_none c.from_residual-in_err-all.result _ c.from_residual-in_err-all.ensures
    (omega (arith, stored, alarms, marks, two, large, length-front client.stored.now client.alarms.now client.trust.now client.marks.now c.known.ensures c.full.ensures))

pub returns-clause-some : goal.returns-clause-some
returns-clause-some c =
    let client = c.args.client.now in
    some_size c.sum_of-3.result _ _ (
    sum-front client.stored.now client.alarms.now client.trust.now client.marks.now c.in_ok-stored.stored c.in_ok-alarms.alarms c.in_ok-marks.marks
    c.in_ok-two.two c.in_ok-all.all c.known.ensures c.full.ensures c.in_ok-stored.ensures.some c.in_ok-alarms.ensures.some
    c.in_ok-marks.ensures.some c.in_ok-two.ensures.some c.in_ok-all.ensures.some
    ) c.sum_of-3.ensures.some

pub returns-clause-none : goal.returns-clause-none
returns-clause-none c =
    let client = c.args.client.now in
    none_size c.sum_of-3.result _ _ (
    sum-front client.stored.now client.alarms.now client.trust.now client.marks.now c.in_ok-stored.stored c.in_ok-alarms.alarms c.in_ok-marks.marks
    c.in_ok-two.two c.in_ok-all.all c.known.ensures c.full.ensures c.in_ok-stored.ensures.some c.in_ok-alarms.ensures.some
    c.in_ok-marks.ensures.some c.in_ok-two.ensures.some c.in_ok-all.ensures.some
    ) c.sum_of-3.ensures.none
