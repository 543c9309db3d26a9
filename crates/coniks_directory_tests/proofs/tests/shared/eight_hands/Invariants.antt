use Rattle.std.proofs.Common.{◌≡◌}
use Rattle.std.specs.Prelude.{All}
use Rattle.coniks_directory_tests.specs.declared.tests.shared.Hand.{Hand}
use Rattle.coniks_directory_tests.proofs.tests.shared.eight_hands.Given as goal

abbrev pub invariant-loop : goal.invariant-loop
invariant-loop g l = record {
  first : l.first.table ≡ l.claims.table;
  hands : All (λ (h : Hand). h.drawer.table ≡ l.claims.table) l.hands.items;
}
