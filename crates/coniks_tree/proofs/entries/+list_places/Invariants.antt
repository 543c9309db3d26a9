use Rattle.std.proofs.Common.{◌-◌}
use Rattle.coniks_tree.proofs.entries.+list_places.Given as goal

abbrev pub decreases-list_places : goal.decreases-list_places
decreases-list_places l = 256 - l.node.level
