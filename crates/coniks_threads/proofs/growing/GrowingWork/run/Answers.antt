use Rattle.std.proofs.Common.{rules}
use Rattle.coniks_threads.proofs.growing.GrowingWork.run.Goals as goal

pub returns : goal.returns
returns g c = search rules
