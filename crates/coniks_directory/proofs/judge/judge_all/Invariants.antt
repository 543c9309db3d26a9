use Rattle.std.proofs.Common.{◌++◌, ℕ, List, length, map, take}
use Rattle.coniks_tree.specs.Trees.{table_of}
use Rattle.coniks_directory.proofs.Words.{ArePendingRecords, IsJudged, Registered, Registry, ShowsLatest, bound_by, operations}
use Rattle.coniks_directory.proofs.judge.judge_all.Given as goal

abbrev pub invariant-loop-position : goal.invariant-loop-position
invariant-loop-position g l = record {
  pending : (hash : List ℕ → List ℕ) (bound : List Registered)
      → ArePendingRecords hash (g.X.IndexSource.index_of l.source) bound l.initial.pending.records.items l.initial.pending.numbers
      → ArePendingRecords hash (g.X.IndexSource.index_of l.source) (bound ++ map bound_by (take (length l.yielded) (operations l.fn.ops.items))) l.pending.records.items l.pending.numbers;
  rest : (hash : List ℕ → List ℕ) (nonce : List ℕ) (registry : Registry) (bound : List Registered)
      → ShowsLatest hash (g.X.IndexSource.index_of l.source) nonce (table_of l.tree) l.root registry
      → ArePendingRecords hash (g.X.IndexSource.index_of l.source) bound l.initial.pending.records.items l.initial.pending.numbers
      → IsJudged (g.X.IndexSource.index_of l.source) registry bound (operations l.fn.ops.items) (length l.yielded);
}
