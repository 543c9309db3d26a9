use Rattle.std.proofs.Common.{ap, ◌∙◌}
use Rattle.coniks_directory.proofs.Words.{Registered, commitment_preimage}
use Rattle.coniks_directory.proofs.CommitmentLemmas.{bound_at, within_at}
use Rattle.coniks_directory.proofs.commitments.preimage_at.Goals as goal

pub of-requires-clause-name : goal.of-requires-clause-name
of-requires-clause-name c = rw c.as_slice.ensures (within_at _ _ _ c.requires.within c.requires.there c.index-records-place.is).0.1

pub of-requires-clause-key : goal.of-requires-clause-key
of-requires-clause-key c = rw c.as_slice-2.ensures (within_at _ _ _ c.requires.within c.requires.there c.index-records-place.is).1.1

pub returns : goal.returns
returns c = λ b at.
    rw (c.as_slice.ensures, c.as_slice-2.ensures) at c.of.ensures
    ∙ ap (λ (x : Registered). commitment_preimage x.opening x.name x.key) (bound_at _ _ _ b c.requires.there c.index-records-place.is at)
