use Rattle.std.proofs.Common.{map}
use Rattle.coniks_quorum.specs.Saved.{stored_from}
use Rattle.coniks_quorum.proofs.StateReadingLemmas.{not_watched, watched_made}
use Rattle.coniks_quorum.proofs.states.reading.read_watched.Goals as goal

pub returns-then-not-are_changes-clause-none : goal.returns-then-not-are_changes-clause-none
returns-then-not-are_changes-clause-none c =
    let named = c.in-Some.named in
    not_watched (map stored_from c.args.stored.now) c.args.bytes.now named.name.now named.since named.key.now named.count c.in-Some.changes.now c.in-Some.ensures.some
    c.are_changes.result c.are_changes.ensures c.if-not-are_changes.true

pub returns-clause-some : goal.returns-clause-some
returns-clause-some c =
    let named = c.in-Some.named in
    watched_made (map stored_from c.args.stored.now) c.args.bytes.now named.name.now named.since named.key.now named.count c.in-Some.changes.now c.in-Some.ensures.some
    c.watched_of.result (c.are_changes.ensures.0 c.if-not-are_changes.false) c.watched_of.ensures.name c.watched_of.ensures.since c.watched_of.ensures.key c.watched_of.ensures.count
    c.watched_of.ensures.changes
