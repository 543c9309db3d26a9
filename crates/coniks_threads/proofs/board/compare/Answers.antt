use Rattle.std.proofs.Common.{rules}
use Rattle.coniks_threads.proofs.BoardSteps.{compares}
use Rattle.coniks_threads.proofs.board.compare.Goals as goal

pub load-requires : goal.load-requires
load-requires c = (search rules, search rules, compares _ _ _ c.args.seat.now.me c.requires.publisher)
