use Rattle.std.proofs.Common.{ap, ◌∙◌}
use Rattle.coniks_directory.proofs.Words.{commitment_to}
use Rattle.coniks_directory.proofs.CommitmentLemmas.{bound_at, within_at}
use Rattle.coniks_directory.proofs.commitments.commitment_at.Goals as goal

pub commit_hash-requires-clause-name : goal.commit_hash-requires-clause-name
commit_hash-requires-clause-name g c = rw c.as_slice.ensures (within_at _ _ _ c.requires.within c.requires.there c.index-records-place.is).0.1

pub commit_hash-requires-clause-key : goal.commit_hash-requires-clause-key
commit_hash-requires-clause-key g c = rw c.as_slice-2.ensures (within_at _ _ _ c.requires.within c.requires.there c.index-records-place.is).1.1

pub returns : goal.returns
returns g c = λ b at.
    rw (c.as_slice.ensures, c.as_slice-2.ensures) at c.commit_hash.ensures
    ∙ ap (commitment_to (g.H.Hash32.digest_of c.args.h.now)) (bound_at _ _ _ b c.requires.there c.index-records-place.is at)
