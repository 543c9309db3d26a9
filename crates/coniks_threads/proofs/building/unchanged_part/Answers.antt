use Rattle.std.proofs.Common.{ap, sym}
use Rattle.coniks_threads.specs.Grown.{unchanged}
use Rattle.coniks_threads.proofs.building.unchanged_part.Goals as goal

pub returns-in-Some : goal.returns-in-Some
returns-in-Some c = sym (ap unchanged c.in-Some.is)
