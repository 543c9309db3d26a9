use Rattle.std.proofs.Common.{◌≡◌, ◌≤◌, ◌+◌, [], true, false, length}
use Rattle.coniks_threads.specs.Pools.{AllFresh}
use Rattle.coniks_threads.specs.Drawers.{drawing}
use Rattle.coniks_threads.proofs.pool.make_workers.Given as goal

abbrev pub invariant-loop-hired : goal.invariant-loop-hired
invariant-loop-hired l = record {
  first_is : l.first ≡ drawing l.claims.table l.claims.limit [] false true (length l.pool.items);
  few : length l.pool.items + 1 ≤ l._hired;
  fresh : AllFresh l.claims l.claims.limit l.pool.items;
}
