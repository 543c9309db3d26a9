use Rattle.std.proofs.Common.{◌≡◌, ◌*◌, length, map, take}
use Rattle.sha2.specs.Sha256.{digest_bytes}
use Rattle.coniks_lanes.proofs.hashing.bytes_of.Given as goal

abbrev pub invariant-words : goal.invariant-words
invariant-words g l = (length l.out ≡ 32) × (take (4 * l.i) l.out ≡ digest_bytes (map (g.W.Words.lane l.j) l.state) l.i)
