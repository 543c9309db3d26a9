use Rattle.std.proofs.Common.{take}
use Rattle.std.specs.List.{flat_map}
use Rattle.coniks_quorum.specs.Saved.{change_bytes, saved_change}
use Rattle.coniks_quorum.specs.StateWriting.{HasPut}
use Rattle.coniks_quorum.proofs.states.writing.put_changes.Given as goal

abbrev pub invariant-loop-change : goal.invariant-loop-change
invariant-loop-change l = HasPut l.initial.out l.at (flat_map (λ change. change_bytes (saved_change change)) (take l.change-index l.changes)) l.out l.end
