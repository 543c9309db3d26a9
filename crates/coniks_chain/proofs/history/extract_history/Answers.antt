use Rattle.std.proofs.Common.{refl}
use Rattle.coniks_chain.proofs.ForkLemmas.{good_same, no_fork, no_stop, collides}
use Rattle.coniks_chain.proofs.history.extract_history.Goals as goal

pub returns-in-None-clause-good : goal.returns-in-None-clause-good
returns-in-None-clause-good g c = λ verdict link good_a good_b end_a end_b.
    ((λ _. good_same (g.H.Hash32.digest_of c.args.h.now) verdict c.args.a.now c.args.b.now link good_a good_b end_a end_b c.in-None.ensures.none), (λ _. refl))

pub returns-clause-collision : goal.returns-clause-collision
returns-clause-collision g c = collides (g.H.Hash32.digest_of c.args.h.now) c.args.a.now c.args.b.now c.in-Some.pair.0 c.in-Some.pair.1 c.in_ok-x.x c.in_ok-y.y
    c.known.ensures c.known-2.ensures c.in-Some.ensures.some c.in_ok-x.ensures c.in_ok-y.ensures

pub returns-clause-good : goal.returns-clause-good
returns-clause-good g c = λ verdict link good_a good_b end_a end_b.
    ((λ impossible. cc), (λ same. absurd (no_fork (g.H.Hash32.digest_of c.args.h.now) c.args.a.now c.args.b.now c.in-Some.pair.0 c.in-Some.pair.1 c.in-Some.ensures.some same)))

pub returns-in_err-x-clause-calm : goal.returns-in_err-x-clause-calm
returns-in_err-x-clause-calm g c = λ stops. absurd (no_stop (g.H.Hash32.digest_of c.args.h.now) c.args.a.now c.args.b.now c.in-Some.pair.0 c.in-Some.pair.1 c.in-Some.ensures.some stops)

pub returns-in_err-y-clause-calm : goal.returns-in_err-y-clause-calm
returns-in_err-y-clause-calm g c = λ stops. absurd (no_stop (g.H.Hash32.digest_of c.args.h.now) c.args.a.now c.args.b.now c.in-Some.pair.0 c.in-Some.pair.1 c.in-Some.ensures.some stops)
