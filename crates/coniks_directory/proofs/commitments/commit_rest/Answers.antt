use Rattle.std.proofs.Common.{arith, refl, subst, sym, ◌∙◌}
use Rattle.coniks_directory.proofs.Words.{AreWithin}
use Rattle.coniks_directory.proofs.CommitmentLemmas.{committed_end}
use Rattle.coniks_directory.proofs.commitments.commit_rest.Goals as goal

pub loop-place-init : goal.loop-place-init
loop-place-init g c = record { binds = refl; committed = λ all so. so }

pub commitment_at-commitment-requires-clause-within : goal.commitment_at-commitment-requires-clause-within
commitment_at-commitment-requires-clause-within g c = subst AreWithin (sym c.loop-place.invariant.binds) c.requires.within

pub loop-place-preserved : goal.loop-place-preserved
loop-place-preserved g c = record {
  binds = c.put.ensures.binds ∙ c.loop-place.invariant.binds;
  committed = λ all so. c.put.ensures.committed (g.H.Hash32.digest_of c.args.h.now) all c.commitment_at-commitment.ensures (c.loop-place.invariant.committed all so);
}

pub returns : goal.returns
returns g c = λ all so. committed_end (g.H.Hash32.digest_of c.args.h.now) all c.loop-place.records c.loop-place.place (omega arith) (c.loop-place.invariant.committed all so)
