use Rattle.std.proofs.lemmas.Option.{slice_get_within}
use Rattle.coniks_quorum.proofs.ClientLemmas.{cover}
use Rattle.coniks_quorum.proofs.covering.coverable.Goals as goal

pub returns-in-Some-staying-clause-client : goal.returns-in-Some-staying-clause-client
returns-in-Some-staying-clause-client c = λ hash auditors dropped marks is.
    let next = c.in-Some-staying.ensures.some.next in
    cover hash auditors dropped c.args.stored.now marks c.in-Some-staying.place is (slice_get_within c.args.stored.now c.in-Some-staying.place next.0 next.1)
