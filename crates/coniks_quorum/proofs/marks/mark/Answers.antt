use Rattle.coniks_quorum.proofs.marks.mark.Goals as goal

pub returns-clause-right : goal.returns-clause-right
returns-clause-right g c = c.remember.ensures.right (g.H.Hash32.digest_of c.args.h.now) c.args.stored.now c.compare-found.ensures.compares
