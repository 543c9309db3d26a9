use Rattle.std.proofs.Common.{rules}
use Rattle.coniks_tool.proofs.run.store.Store.new.Goals as goal

pub invariant_of-result : goal.invariant_of-result
invariant_of-result c = search rules
