use Rattle.std.proofs.Common.{rules}
use Rattle.coniks_proof.proofs.collision.extract.Goals as goal

pub returns-then-same_answer-clause-exact : goal.returns-then-same_answer-clause-exact
returns-then-same_answer-clause-exact g c = search rules

pub returns-clause-collision : goal.returns-clause-collision
returns-clause-collision g c = record { differ = c.in_ok-x.ensures.place.differ; same_hash = c.in_ok-x.ensures.same_hash (search rules) }

pub returns-clause-place : goal.returns-clause-place
returns-clause-place g c = rw (c.as_slice.ensures, c.as_slice-2.ensures) at c.in_ok-x.ensures.place
