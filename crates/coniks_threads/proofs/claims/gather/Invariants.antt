use Rattle.std.proofs.Common.{◌≡◌, ◌<◌, length}
use Rattle.std.specs.Prelude.{All}
use Rattle.coniks_threads.specs.Drawers.{Drawing}
use Rattle.coniks_threads.specs.Gathered.{Gathered}
use Rattle.coniks_threads.proofs.claims.gather.Given as goal

abbrev pub invariant-loop-drawer : goal.invariant-loop-drawer
invariant-loop-drawer l = record {
  same : l.taker.table_id ≡ l.fn.taker.table_id;
  some : 0 < l.taker.me.0.parts;
  own : All (λ (d : Drawing). d.table ≡ l.table.table_id) l.drawers.items;
  sums : Gathered l.taker.me.0 l.drawers.items l.fn.taker.me.0 l.fn.drawers.items;
}

abbrev pub decreases-loop-drawer : goal.decreases-loop-drawer
decreases-loop-drawer l = length l.drawers.items
