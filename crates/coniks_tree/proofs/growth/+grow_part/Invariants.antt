use Rattle.std.proofs.Common.{◌-◌, length}
use Rattle.coniks_tree.proofs.growth.+grow_part.Given as goal

abbrev pub decreases-grow_part : goal.decreases-grow_part
decreases-grow_part g l = 256 - length l.prefix.now
