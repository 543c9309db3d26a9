use Rattle.std.proofs.Common.{◌≡◌, length}
use Rattle.std.specs.Cmp.Lexicographic.{slice_cmp}
use Rattle.std.specs.Ordering.{nat_cmp}
use Rattle.coniks_directory.proofs.NameLemmas.{AreBytes}
use Rattle.coniks_directory.proofs.name_key.order.Given as goal

-- what is left compares as the whole
abbrev pub invariant-loop-x : goal.invariant-loop-x
invariant-loop-x l = AreBytes l.rest × AreBytes l.other × slice_cmp nat_cmp l.rest l.other ≡ slice_cmp nat_cmp l.a l.b

abbrev pub decreases-loop-x : goal.decreases-loop-x
decreases-loop-x l = length l.rest
