use Rattle.std.proofs.Common.{◌-◌, length}
use Rattle.coniks_threads.proofs.upwards.+join_upwards.Given as goal

abbrev pub decreases-join_upwards : goal.decreases-join_upwards
decreases-join_upwards g l = l.depth - length l.prefix.now
