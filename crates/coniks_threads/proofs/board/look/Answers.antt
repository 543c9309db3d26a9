use Rattle.std.proofs.Common.{ap, rules}
use Rattle.coniks_threads.specs.declared.board_rule.BoardView.{BoardView}
use Rattle.coniks_threads.proofs.BoardSteps.{looks}
use Rattle.coniks_threads.proofs.board.look.Goals as goal

pub load-requires : goal.load-requires
load-requires c = (search rules, search rules, looks _ _ _ c.args.seat.now.me (ap (λ (v : BoardView). v.writes) c.requires.watcher) (ap (λ (v : BoardView). v.live) c.requires.watcher))
