use Rattle.std.proofs.Common.{arith, ap, rules}
use Rattle.coniks_threads.specs.declared.board_rule.BoardView.{BoardView}
use Rattle.coniks_threads.proofs.BoardSteps.{puts}
use Rattle.coniks_threads.proofs.board.put.Goals as goal

pub store-requires : goal.store-requires
store-requires c = (
  search rules,
  omega arith,
  puts _ _ _ c.args.seat.now.me c.args.at c.args.word (ap (λ (v : BoardView). v.writes) c.requires.publisher)
      (ap (λ (v : BoardView). v.live) c.requires.publisher) c.requires.place c.requires.room.0 c.requires.room.1,
)
