use Rattle.std.proofs.Common.{◌≡◌, take}
use Rattle.coniks_directory.proofs.batch.copies_of.Given as goal

-- the operations so far
abbrev pub invariant-loop-op : goal.invariant-loop-op
invariant-loop-op l = l.copies.items ≡ take l.op-index l.ops
