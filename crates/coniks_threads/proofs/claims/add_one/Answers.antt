use Rattle.std.proofs.Common.{rules}
use Rattle.coniks_threads.proofs.ClaimsSteps.{draws}
use Rattle.coniks_threads.proofs.claims.add_one.Goals as goal

pub fetch_add-requires : goal.fetch_add-requires
fetch_add-requires c = (search rules, search rules, draws _ _ _ c.args.seat.now.me c.requires.fresh c.requires.some)
