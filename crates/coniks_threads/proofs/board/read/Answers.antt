use Rattle.std.proofs.Common.{rules}
use Rattle.coniks_threads.proofs.BoardSteps.{reads}
use Rattle.coniks_threads.proofs.board.read.Goals as goal

pub load-requires : goal.load-requires
load-requires c = (search rules, search rules, reads _ _ _ c.args.seat.now.me c.args.at c.requires.place.0 c.requires.place.1 c.requires.place.2)
