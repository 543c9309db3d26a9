use Rattle.std.proofs.Common.{◌≡◌, drop}
use Rattle.std.specs.Prelude.{map}
use Rattle.serde_json.specs.View.{items_view}
use Rattle.coniks_directory.specs.Batches.{operation_of}
use Rattle.coniks_programs.specs.Operations.{operations_from}
use Rattle.coniks_programs.proofs.OperationsLemmas.{after}
use Rattle.coniks_programs.proofs.operations.read_ops.Given as goal

-- the result for the list is what was found, followed by the result for the rest
abbrev pub invariant-loop-place : goal.invariant-loop-place
invariant-loop-place l =
    operations_from 0 (items_view l.list) ≡ after (map operation_of l.found.items) (operations_from l.place (items_view (drop l.place l.list)))
