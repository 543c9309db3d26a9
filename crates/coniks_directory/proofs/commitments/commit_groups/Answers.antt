use Rattle.std.proofs.Common.{◌≡◌, ◌+◌, ◌*◌, arith, refl, subst, sym, ◌∙◌}
use Rattle.coniks_directory.proofs.Words.{AreCommittedTo, AreWithin}
use Rattle.coniks_directory.proofs.commitments.commit_groups.Goals as goal

pub loop-group-init : goal.loop-group-init
loop-group-init g c = record { binds = refl; committed = refl }

pub commit_eight-requires-clause-within : goal.commit_eight-requires-clause-within
commit_eight-requires-clause-within g c = subst AreWithin (sym c.loop-group.invariant.binds) c.requires.within

pub loop-group-preserved : goal.loop-group-preserved
loop-group-preserved g c =
    let step : 8 * c.loop-group.group + 8 ≡ 8 * (c.loop-group.group + 1) = omega arith in
    record {
      binds = c.commit_eight.ensures.binds ∙ c.loop-group.invariant.binds;
      committed = subst (λ n. AreCommittedTo (g.H.Hash32.digest_of c.args.h.now) c.args.records.now n c.commit_eight.new.records) step
          (c.commit_eight.ensures.committed c.args.records.now c.loop-group.invariant.committed);
    }
