use Rattle.std.proofs.Common.{◌≡◌}
use Rattle.coniks_directory.proofs.Words.{registered_of}
use Rattle.coniks_directory.proofs.CommitmentLemmas.{binds_still, found_at, committed_next}
use Rattle.coniks_directory.proofs.commitments.put.Goals as goal

pub returns-clause-binds : goal.returns-clause-binds
returns-clause-binds c = rw (← c.index-records-place.is) (binds_still c.args.records.now c.args.place c.index-records-place.result c.args.commitment c.index-records-place.is)

pub returns-clause-committed : goal.returns-clause-committed
returns-clause-committed c = λ hash all is so.
    let r = c.index-records-place.result in
    let index_of : c.args.commitment.0 ≡ _ = is (registered_of r) (found_at c.args.records.now c.args.place r c.requires c.index-records-place.is) in
    rw (← c.index-records-place.is) (committed_next hash all c.args.records.now c.args.place r c.args.commitment c.requires c.index-records-place.is index_of so)
