use Rattle.std.proofs.Common.{◌≡◌, ℕ, ◌<◌, [], length, map, slice_index_or}
use Rattle.sha2.specs.Sha256.{digest_bytes}
use Rattle.coniks_lanes.proofs.hashing.write_lanes.Given as goal

abbrev pub invariant-lanes : goal.invariant-lanes
invariant-lanes g l = (length l.hashes ≡ g.W.Words.lanes)
    × ((k : ℕ) → k < l.j → slice_index_or l.hashes k [] ≡ digest_bytes (map (g.W.Words.lane k) l.state) 8)
