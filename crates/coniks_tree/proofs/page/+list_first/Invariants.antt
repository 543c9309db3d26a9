use Rattle.std.proofs.Common.{◌-◌}
use Rattle.coniks_tree.proofs.page.+list_first.Given as goal

abbrev pub decreases-list_first : goal.decreases-list_first
decreases-list_first l = 256 - l.node.level
