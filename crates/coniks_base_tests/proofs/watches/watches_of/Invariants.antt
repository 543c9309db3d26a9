use Rattle.std.proofs.Common.{◌≡◌, length}
use Rattle.std.specs.Prelude.{All}
use Rattle.coniks_base_tests.specs.declared.watches.Watch.{Watch}
use Rattle.coniks_base_tests.proofs.watches.watches_of.Given as goal

abbrev pub invariant-loop : goal.invariant-loop
invariant-loop l = record {
  same : l.publisher ≡ l.fn.publisher;
  all : All (λ (w : Watch). w.watcher.table ≡ l.board.table) l.watches.items;
  len : length l.watches.items ≡ l.counter;
}
