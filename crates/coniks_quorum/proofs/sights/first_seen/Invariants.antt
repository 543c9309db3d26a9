use Rattle.coniks_quorum.specs.Sights.{SeesNoneTo}
use Rattle.coniks_quorum.proofs.sights.first_seen.Given as goal

abbrev pub invariant-loop-place : goal.invariant-loop-place
invariant-loop-place l = SeesNoneTo l.view l.sight l.place
