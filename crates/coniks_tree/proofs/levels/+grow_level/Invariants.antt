use Rattle.std.proofs.Common.{◌-◌}
use Rattle.coniks_tree.proofs.levels.+grow_level.Given as goal

abbrev pub decreases-grow_level : goal.decreases-grow_level
decreases-grow_level g l = 256 - l.level
