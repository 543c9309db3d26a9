use Rattle.std.proofs.Common.{map}
use Rattle.coniks_quorum.specs.Saved.{alarm_from, stored_from, mark_from}
use Rattle.coniks_quorum.proofs.StateSameLemmas.{rest-misfit, rest-no_front, rest-no_watch, rest_made}
use Rattle.coniks_quorum.proofs.states.reading.read_parts.Goals as goal

pub returns-in_default-clause-none : goal.returns-in_default-clause-none
returns-in_default-clause-none c = rest-no_front c.args.bytes.now c.in_default.ensures.none

pub returns-in_default-read_watch-clause-none : goal.returns-in_default-read_watch-clause-none
returns-in_default-read_watch-clause-none c =
    let front = c.in-Some.front in
    rest-no_watch c.args.bytes.now (map stored_from front.stored.now) (map alarm_from front.alarms.now) front.trust.now (map mark_from front.marks.now) c.in-Some.rest.now
    c.in-Some.ensures.some c.in_default-read_watch.ensures.none

pub returns-then-not-front_fits-clause-none : goal.returns-then-not-front_fits-clause-none
returns-then-not-front_fits-clause-none c =
    let front = c.in-Some.front in
    rest-misfit c.args.bytes.now (map stored_from front.stored.now) (map alarm_from front.alarms.now) front.trust.now (map mark_from front.marks.now) c.in-Some.rest.now
    c.in-Some.ensures.some c.in-Some-read_watch.watch c.in-Some-read_watch.ensures.some c.since_of.result c.since_of.ensures c.front_fits.result c.front_fits.ensures
    c.if-not-front_fits.true

pub returns-clause-some : goal.returns-clause-some
returns-clause-some c =
    let front = c.in-Some.front in
    rest_made c.args.bytes.now c.in-Some.rest.now
    (record { stored = front.stored; alarms = front.alarms; trust = front.trust; marks = front.marks; watch = c.in-Some-read_watch.watch }) c.in-Some.ensures.some
    c.in-Some-read_watch.ensures.some c.since_of.result c.since_of.ensures (c.front_fits.ensures.0 c.if-not-front_fits.false)
