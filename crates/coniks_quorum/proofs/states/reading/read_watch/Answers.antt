use Rattle.std.proofs.Common.{arith, map}
use Rattle.coniks_quorum.specs.Saved.{stored_from}
use Rattle.coniks_quorum.proofs.StateSameLemmas.{watch_made}
use Rattle.coniks_quorum.proofs.states.reading.read_watch.Goals as goal

pub returns-in-Some-read_watched-clause-some : goal.returns-in-Some-read_watched-clause-some
returns-in-Some-read_watched-clause-some c =
    watch_made (map stored_from c.args.stored.now) c.args.bytes.now c.in-Some.rest.now c.in-Some.kind.now c.in-Some.ensures.cases.0 (omega arith)
    c.in-Some-read_watched.watched c.in-Some-read_watched.ensures.some
