use Rattle.std.proofs.Common.{◌≡◌, ◌≤◌}
use Rattle.coniks_client.specs.SiblingMaps.{rank}
use Rattle.coniks_client.proofs.histories.maps.rank.Given as goal

abbrev pub invariant-loop-k : goal.invariant-loop-k
invariant-loop-k l = record { count_is : l.count ≡ rank l.map l.k; small : l.count ≤ l.k }
