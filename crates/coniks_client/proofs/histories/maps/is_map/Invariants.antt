use Rattle.std.proofs.Common.{◌<◌, ℕ, length}
use Rattle.coniks_client.specs.SiblingMaps.{FitsAt}
use Rattle.coniks_client.proofs.histories.maps.is_map.Given as goal

abbrev pub invariant-loop-k : goal.invariant-loop-k
invariant-loop-k l = (j : ℕ) → j < l.k → FitsAt l.map l.n (length l.old) j
