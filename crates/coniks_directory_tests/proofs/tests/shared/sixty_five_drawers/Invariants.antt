use Rattle.std.proofs.Common.{◌≡◌}
use Rattle.coniks_directory_tests.proofs.tests.shared.sixty_five_drawers.Given as goal

abbrev pub invariant-loop : goal.invariant-loop
invariant-loop g l = l.first.table ≡ l.shared.table
