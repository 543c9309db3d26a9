use Rattle.std.proofs.Common.{◌≡◌, [], ◌∷◌, ◌++◌, arith}
use Rattle.std.specs.Prelude.{Some}
use Rattle.std.proofs.lemmas.Grind.{common_steps}
use Rattle.serde_json.specs.View.{view}
use Rattle.coniks_directory.specs.Batches.{operation_of}
use Rattle.coniks_programs.specs.Operations.{operation_in}
use Rattle.coniks_programs.proofs.OperationsLemmas.{all_read, one_more_operation}
use Rattle.coniks_programs.proofs.operations.read_ops.Goals as goal

pub loop-place-preserved : goal.loop-place-preserved
loop-place-preserved c =
    let some : Some (operation_of c.in-Some.op) ≡ operation_in (view c.index-list-place.result) = rw c.in-Some.is at c.in_ok-op.ensures in
    let pushed : c.push.new.self.items ≡ c.loop-place.found.items ++ c.in-Some.op ∷ [] = grind (arith, common_steps) in
    one_more_operation c.args.list.now c.loop-place.place c.index-list-place.result c.loop-place.found.items
    c.push.new.self.items c.in-Some.op c.loop-place-test.true c.index-list-place.is some pushed c.loop-place.invariant

pub returns : goal.returns
returns c = all_read c.args.list.now c.loop-place.place c.loop-place.found.items c.loop-place-test.false c.loop-place.invariant
