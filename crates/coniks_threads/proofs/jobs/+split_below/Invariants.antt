use Rattle.std.proofs.Common.{◌-◌, length}
use Rattle.coniks_threads.proofs.jobs.+split_below.Given as goal

abbrev pub decreases-split_below : goal.decreases-split_below
decreases-split_below l = l.depth - length l.prefix
