use Rattle.std.proofs.Common.{◌-◌}
use Rattle.coniks_tree.proofs.page.+list_beyond.Given as goal

abbrev pub decreases-list_beyond : goal.decreases-list_beyond
decreases-list_beyond l = 256 - l.node.level
