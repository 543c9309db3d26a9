use Rattle.std.proofs.Common.{◌∙◌, ap}
use Rattle.coniks_proof.proofs.hashing.commit_hash_four.Goals as goal

pub returns-clause-second : goal.returns-clause-second
returns-clause-second g c = c.hash_four.ensures.second ∙ ap (g.H.Hash32.digest_of c.args.h.now) c.pieces-2.ensures

pub returns-clause-third : goal.returns-clause-third
returns-clause-third g c = c.hash_four.ensures.third ∙ ap (g.H.Hash32.digest_of c.args.h.now) c.pieces-3.ensures
