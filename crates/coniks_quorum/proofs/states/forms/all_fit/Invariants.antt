use Rattle.std.proofs.Common.{take}
use Rattle.std.specs.List.{All}
use Rattle.coniks_quorum.specs.StateForms.{Fits}
use Rattle.coniks_quorum.specs.Saved.{stored_from}
use Rattle.coniks_quorum.proofs.states.forms.all_fit.Given as goal

abbrev pub invariant-loop-bytes : goal.invariant-loop-bytes
invariant-loop-bytes l = All (λ bytes. Fits l.since (stored_from bytes)) (take l.bytes-index l.stored)
