use Rattle.std.proofs.Common.{◌≡◌}
use Rattle.coniks_base_tests.proofs.watches.look_until.Given as goal

abbrev pub invariant-loop : goal.invariant-loop
invariant-loop l = l.watch.watcher.table ≡ l.fn.watch.watcher.table
