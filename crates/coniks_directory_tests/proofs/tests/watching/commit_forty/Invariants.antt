use Rattle.std.proofs.Common.{◌≡◌}
use Rattle.coniks_directory_tests.proofs.tests.watching.commit_forty.Given as goal

abbrev pub invariant-loop-t : goal.invariant-loop-t
invariant-loop-t g l = l.clerk.board.now.table ≡ l.fn.clerk.board.now.table
