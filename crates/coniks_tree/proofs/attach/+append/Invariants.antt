use Rattle.std.proofs.Common.{◌-◌}
use Rattle.coniks_tree.proofs.attach.+append.Given as goal

abbrev pub decreases-append : goal.decreases-append
decreases-append l = 256 - l.level
