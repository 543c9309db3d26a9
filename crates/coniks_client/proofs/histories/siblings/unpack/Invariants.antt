use Rattle.std.proofs.Common.{◌≡◌}
use Rattle.coniks_client.specs.SiblingMaps.{rank}
use Rattle.coniks_client.specs.Siblings.{AreUnpacked}
use Rattle.coniks_client.proofs.histories.siblings.unpack.Given as goal

abbrev pub invariant-loop-i : goal.invariant-loop-i
invariant-loop-i l = record { taken : l.taken ≡ rank l.map l.i; unpacked : AreUnpacked l.map l.i l.sent l.initial.siblings l.siblings }
