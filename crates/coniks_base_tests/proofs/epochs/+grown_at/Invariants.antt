use Rattle.coniks_base_tests.proofs.epochs.+grown_at.Given as goal

abbrev pub decreases-grown_at : goal.decreases-grown_at
decreases-grown_at g l = l.depth
