use Rattle.std.proofs.Common.{◌≡◌}
use Rattle.measures.proofs.soak.rounds.commit_all.Given as goal

abbrev pub invariant-loop-latest : goal.invariant-loop-latest
invariant-loop-latest g l = l.provider.board.now.table ≡ l.fn.provider.board.now.table
