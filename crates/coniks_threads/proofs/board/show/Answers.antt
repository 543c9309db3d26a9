use Rattle.std.proofs.Common.{arith, ap, rules}
use Rattle.coniks_threads.specs.declared.board_rule.BoardView.{BoardView}
use Rattle.coniks_threads.proofs.BoardSteps.{publishes}
use Rattle.coniks_threads.proofs.board.show.Goals as goal

pub store-requires : goal.store-requires
store-requires c = (
  search rules,
  omega arith,
  publishes _ _ _ c.args.seat.now.me c.args.count (ap (λ (v : BoardView). v.writes) c.requires.publisher)
      (ap (λ (v : BoardView). v.live) c.requires.publisher) c.requires.whole c.requires.count.0 (omega arith),
)
