use Rattle.std.proofs.Common.{List, take}
use Rattle.coniks_proof.specs.Octets.{Octets}
use Rattle.coniks_directory.proofs.Words.{ArePendingRecords, Registered}
use Rattle.coniks_directory.specs.Supplied.{supplied_index}
use Rattle.coniks_directory.specs.SuppliedBatches.{IsFresh, indexed, named_in}
use Rattle.coniks_directory.proofs.supplied_bindings.fresh_indices.Given as goal

-- the names up to the place that aren't bound have their first indices
abbrev pub invariant-loop-place : goal.invariant-loop-place
invariant-loop-place l = (hash : Octets → Octets) (bound : List Registered)
    → ArePendingRecords hash (supplied_index l.source) bound l.pending.records.items l.pending.numbers
    → IsFresh bound l.fresh (named_in (take l.place (indexed l.bindings l.indices)))
