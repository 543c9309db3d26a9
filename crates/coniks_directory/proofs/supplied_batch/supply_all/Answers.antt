use Rattle.std.proofs.Common.{◌≡◌, Some, ap, rules, slice_get, sym, ◌∙◌}
use Rattle.coniks_directory.proofs.Words.{slice_get-get_or}
use Rattle.coniks_directory.specs.SuppliedBatches.{put_index}
use Rattle.coniks_directory.proofs.SuppliedBatchLemmas.{put_next}
use Rattle.coniks_directory.proofs.supplied_batch.supply_all.Goals as goal

pub loop-new-preserved : goal.loop-new-preserved
loop-new-preserved c =
    let xs = c.args.records.now in
    let i = c.loop-new.new-index in
    let x = c.new-item.result in
    let at : slice_get xs i ≡ Some x = slice_get-get_or xs i x c.loop-new-test.true ∙ ap Some (sym c.new-item.is) in
    let is : c.supply.new.self ≡ put_index c.loop-new.source x.binding.name x.index.0 = search rules in
    is ∙ ap (λ ys. put_index ys x.binding.name x.index.0) c.loop-new.invariant ∙ sym (put_next c.args.source.now xs i x at)
