use Rattle.std.proofs.Common.{rules}
use Rattle.coniks_threads.proofs.BoardSteps.{witnesses}
use Rattle.coniks_threads.proofs.board.witness.Goals as goal

pub split_seat-requires : goal.split_seat-requires
split_seat-requires c = (search rules, search rules, witnesses _ _ c.args.seat.now.me.0 c.requires.live)
