use Rattle.std.proofs.Common.{rules, arith}
use Rattle.coniks_threads.proofs.ClaimsSteps.{cuts}
use Rattle.coniks_threads.proofs.claims.cut_off.Goals as goal

pub split_seat-requires : goal.split_seat-requires
split_seat-requires c = (search rules, search rules, cuts _ _ c.args.seat.now.me.0 c.requires.spare.0 (omega arith))
