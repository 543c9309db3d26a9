use Rattle.std.proofs.Common.{◌≡◌, [], Some, ap, arith, length, length-append, ◌++◌, ◌∷◌, ◌∙◌}
use Rattle.std.proofs.lemmas.Grind.{common_steps}
use Rattle.serde_json.specs.View.{view}
use Rattle.coniks_directory.specs.Batches.{operation_of}
use Rattle.coniks_directory.specs.SuppliedBatches.{Indexed}
use Rattle.coniks_provider.specs.Lines.{indexed_in}
use Rattle.coniks_provider.proofs.OperationsLemmas.{one_more}
use Rattle.coniks_provider.proofs.operations.read_operations.Goals as goal

pub loop-place-preserved : goal.loop-place-preserved
loop-place-preserved c =
    let l = c.loop-place in
    let op = c.in-Some.op in
    let index = c.in-Some.index in
    let x : Indexed = record { op = operation_of op; index = index.0 } in
    let some : Some x ≡ indexed_in c.args.kind (view c.index-list-place.result) = rw c.in-Some.is at c.in_ok-op.ensures in
    let pushed : c.push.new.self.items ≡ l.ops.items ++ op ∷ [] = grind (arith, common_steps) in
    let pushed_index : c.push-in-Some.new.self.items ≡ l.indices.items ++ index ∷ [] = grind (arith, common_steps) in
    record {
      found = one_more c.args.kind c.args.list.now l.place c.index-list-place.result l.ops.items c.push.new.self.items l.indices.items
          c.push-in-Some.new.self.items op index c.loop-place-test.true c.index-list-place.is some pushed pushed_index
          l.invariant.paired l.invariant.found;
      paired =
          let more = ap length pushed ∙ length-append l.ops.items (op ∷ []) in
          let also = ap length pushed_index ∙ length-append l.indices.items (index ∷ []) in
          let paired = l.invariant.paired in
          omega (arith, more, also, paired);
    }
