use Rattle.std.proofs.Common.{take}
use Rattle.std.specs.List.{All}
use Rattle.coniks_quorum.specs.StateForms.{IsClearAt}
use Rattle.coniks_quorum.specs.Saved.{stored_from, saved_change}
use Rattle.coniks_quorum.proofs.states.forms.is_clear.Given as goal

abbrev pub invariant-loop-bytes : goal.invariant-loop-bytes
invariant-loop-bytes l = All (λ bytes. IsClearAt (saved_change l.change) (stored_from bytes)) (take l.bytes-index l.stored)
