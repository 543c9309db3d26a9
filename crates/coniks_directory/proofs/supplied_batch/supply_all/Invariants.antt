use Rattle.std.proofs.Common.{◌≡◌, take}
use Rattle.coniks_directory.specs.SuppliedBatches.{indices_in, put_indices}
use Rattle.coniks_directory.proofs.supplied_batch.supply_all.Given as goal

abbrev pub invariant-loop-new : goal.invariant-loop-new
invariant-loop-new l = l.source ≡ put_indices l.initial.source (indices_in (take l.new-index l.records))
