use Rattle.std.proofs.Common.{◌≡◌}
use Rattle.coniks_client.specs.SiblingMaps.{rank}
use Rattle.coniks_client.specs.Siblings.{AreNew}
use Rattle.coniks_client.proofs.histories.siblings.are_repeated.Given as goal

abbrev pub invariant-loop-i : goal.invariant-loop-i
invariant-loop-i l = record { taken : l.taken ≡ rank l.map l.i; new : AreNew l.old l.map l.i l.sent }
