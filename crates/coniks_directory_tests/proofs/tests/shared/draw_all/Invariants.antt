use Rattle.std.proofs.Common.{◌≡◌, ◌-◌, length}
use Rattle.coniks_directory_tests.proofs.tests.shared.draw_all.Given as goal

abbrev pub invariant-loop-number : goal.invariant-loop-number
invariant-loop-number l = l.hand.drawer.table ≡ l.claims.table

abbrev pub decreases-loop-number : goal.decreases-loop-number
decreases-loop-number l = l.hand.drawer.limit - length l.hand.drawer.list
