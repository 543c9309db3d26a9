use Rattle.coniks_proof.proofs.paths.joined_hash.Goals as goal

pub returns-then-goes_right : goal.returns-then-goes_right
returns-then-goes_right g c = rw c.if-goes_right.true c.inner_hash.ensures
