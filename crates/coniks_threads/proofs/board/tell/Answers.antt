use Rattle.std.proofs.Common.{rules}
use Rattle.coniks_threads.proofs.BoardSteps.{tells}
use Rattle.coniks_threads.proofs.board.tell.Goals as goal

pub join_seat-requires : goal.join_seat-requires
join_seat-requires c = (search rules, search rules, search rules, search rules, tells _ _ c.args.seat.now.me.0 _ _)
