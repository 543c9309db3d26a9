use Rattle.std.proofs.Common.{◌*◌, ◌+◌, ◌-◌, length}
use Rattle.coniks_threads.proofs.worker.+pool.Given as goal

abbrev pub decreases-run_workers : goal.decreases-run_workers
decreases-run_workers g l = 3 * length l.pool.now

abbrev pub decreases-run_apart : goal.decreases-run_apart
decreases-run_apart g l = 3 * length l.pool.now - 1

abbrev pub decreases-run_apart-here : goal.decreases-run_apart-here
decreases-run_apart-here g l = 3 * length l.others.now + 1
