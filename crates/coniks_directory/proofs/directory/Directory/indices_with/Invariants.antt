use Rattle.std.proofs.Common.{take}
use Rattle.coniks_directory.proofs.Words.{history_of, latest_registry}
use Rattle.coniks_directory.specs.SuppliedBatches.{IsFresh, indexed, named_in}
use Rattle.coniks_directory.proofs.SuppliedBatchLemmas.{IsFirstOther}
use Rattle.coniks_directory.proofs.directory.Directory.indices_with.Given as goal

-- the names up to the place that aren't registered have their first indices
abbrev pub invariant-loop-place : goal.invariant-loop-place
invariant-loop-place g l = record {
  fresh : IsFresh (latest_registry (history_of l.self.state)) l.fresh (named_in (take l.place (indexed l.ops l.indices)));
  other : IsFirstOther (g.X.IndexSource.index_of l.self.index) (latest_registry (history_of l.self.state)) (indexed l.ops l.indices) l.place l.other;
}
