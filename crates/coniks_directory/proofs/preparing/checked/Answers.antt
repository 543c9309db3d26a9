use Rattle.std.proofs.Common.{◌≡◌, Err, map, rules}
use Rattle.coniks_directory.proofs.Words.{bound_by, operations}
use Rattle.coniks_directory.proofs.CommitmentLemmas.{drafts_within}
use Rattle.coniks_directory.proofs.preparing.checked.Goals as goal

pub commit_records-requires-clause-within : goal.commit_records-requires-clause-within
commit_records-requires-clause-within g c κs within =
    let hash = g.H.Hash32.digest_of c.args.origin.now.h.now in
    drafts_within hash (g.X.IndexSource.index_of c.args.origin.now.source.now) (map bound_by (operations c.args.ops.items)) _ _ (c.in_ok-pending.ensures.pending hash)

pub returns-clause-pending : goal.returns-clause-pending
returns-clause-pending g c =
    let hash = g.H.Hash32.digest_of c.args.origin.now.h.now in
    c.commit_records.ensures.pending hash (g.X.IndexSource.index_of c.args.origin.now.source.now) (map bound_by (operations c.args.ops.items)) (c.in_ok-pending.ensures.pending hash)

pub returns-clause-faultless : goal.returns-clause-faultless
returns-clause-faultless g c = c.in_ok-pending.ensures.faultless (g.H.Hash32.digest_of c.args.origin.now.h.now)

pub returns-in_err-pending-clause-fault : goal.returns-in_err-pending-clause-fault
returns-in_err-pending-clause-fault g c =
    let is : c.from_residual.result ≡ Err c.in_err-pending.field-0.0 = search rules in
    rw is (c.in_err-pending.ensures.fault (g.H.Hash32.digest_of c.args.origin.now.h.now))
