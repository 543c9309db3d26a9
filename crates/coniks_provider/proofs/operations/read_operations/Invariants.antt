use Rattle.std.proofs.Common.{◌≡◌, drop, length}
use Rattle.serde_json.specs.View.{items_view}
use Rattle.coniks_directory.specs.SuppliedBatches.{indexed}
use Rattle.coniks_provider.specs.Lines.{batch_from}
use Rattle.coniks_provider.proofs.OperationsLemmas.{after}
use Rattle.coniks_provider.proofs.operations.read_operations.Given as goal

-- the result for the list is what was found, followed by the result for the rest; there are as many indices as operations
abbrev pub invariant-loop-place : goal.invariant-loop-place
invariant-loop-place l = record {
  found : batch_from l.kind 0 (items_view l.list) ≡ after (indexed l.ops.items l.indices.items) (batch_from l.kind l.place (items_view (drop l.place l.list)));
  paired : length l.ops.items ≡ length l.indices.items;
}
