use Rattle.std.proofs.Common.{rules, ap}
use Rattle.coniks_threads.proofs.ClaimsSteps.{glues}
use Rattle.coniks_threads.proofs.GatherLemmas.{took}
use Rattle.coniks_threads.proofs.claims.take_in.Goals as goal

pub join_seat-requires : goal.join_seat-requires
join_seat-requires c = (search rules, search rules, search rules, search rules, glues _ _ c.args.taker.now.me.0 _ _ c.requires.some)

pub returns-clause-sums : goal.returns-clause-sums
returns-clause-sums c = took c.args.taker.now.me.0 _ _ c.args.drawer (ap (λ m. m.0) c.into_seat.ensures.1) (ap (λ m. m.0) c.join_seat.ensures.2)
