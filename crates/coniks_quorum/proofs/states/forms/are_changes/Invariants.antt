use Rattle.std.proofs.Common.{◌-◌, map}
use Rattle.coniks_quorum.specs.Saved.{stored_from}
use Rattle.coniks_quorum.proofs.StateChangeLemmas.{Leaves}
use Rattle.coniks_quorum.proofs.states.forms.are_changes.Given as goal

abbrev pub invariant-loop-place : goal.invariant-loop-place
invariant-loop-place l =
    Leaves (map stored_from l.stored) 0 l.named.key.now l.named.count l.bytes l.from l.key (l.named.count - l._place) l.rest
