use Rattle.std.proofs.Common.{◌≡◌, ◌+◌, arith, refl, subst, ◌∙◌}
use Rattle.coniks_directory.proofs.Words.{AreCommittedTo}
use Rattle.coniks_directory.proofs.CommitmentLemmas.{commitment_still}
use Rattle.coniks_directory.proofs.commitments.put_all.Goals as goal

pub loop-offset-preserved : goal.loop-offset-preserved
loop-offset-preserved c =
    let at : c.args.place + c.loop-offset.offset + 1 ≡ c.args.place + (c.loop-offset.offset + 1) = omega arith in
    record {
      binds = c.put.ensures.binds ∙ c.loop-offset.invariant.binds;
      committed = λ hash all from so. subst (λ n. AreCommittedTo hash all n c.put.new.records) at
          (c.put.ensures.committed hash all
          (commitment_still hash c.args.records.now c.loop-offset.records c.args.place c.loop-offset.offset c.args.commitments.now _ _ (omega arith) refl
          c.loop-offset.invariant.binds from)
          (c.loop-offset.invariant.committed hash all from so));
    }
