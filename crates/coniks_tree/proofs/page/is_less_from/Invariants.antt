use Rattle.std.proofs.Common.{◌-◌, ◌≡◌}
use Rattle.coniks_tree.specs.Pages.{is_less_from}
use Rattle.coniks_tree.proofs.page.is_less_from.Given as goal

abbrev pub invariant-loop-at : goal.invariant-loop-at
invariant-loop-at l = is_less_from l.at l.index.0 l.other.0 ≡ is_less_from l.fn.level l.index.0 l.other.0

abbrev pub decreases-loop-at : goal.decreases-loop-at
decreases-loop-at l = 256 - l.at
