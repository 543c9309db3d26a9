use Rattle.std.proofs.Common.{◌≡◌, length, take}
use Rattle.std.specs.List.{flat_map}
use Rattle.coniks_quorum.specs.Saved.{change_bytes, saved_change}
use Rattle.coniks_quorum.proofs.states.sizes.changes_size.Given as goal

abbrev pub invariant-loop-change : goal.invariant-loop-change
invariant-loop-change l = l.size ≡ length (flat_map (λ change. change_bytes (saved_change change)) (take l.change-index l.changes))
