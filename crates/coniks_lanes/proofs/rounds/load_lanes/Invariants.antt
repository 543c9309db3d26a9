use Rattle.std.proofs.Common.{◌≡◌, ℕ, ◌<◌, [], length, map, slice_index, slice_index_or}
use Rattle.sha2.specs.Sha256.{padded_message, word_at}
use Rattle.coniks_lanes.specs.Messages.{block}
use Rattle.coniks_lanes.proofs.rounds.load_lanes.Given as goal

abbrev pub invariant-lanes : goal.invariant-lanes
invariant-lanes g l = (length l.list ≡ 8)
    × ((k : ℕ) → k < l.j → slice_index l.list k ≡ word_at (slice_index_or (map (λ m. block l.at.block m.now) l.messages) k []) l.at.byte)
    × ((k : ℕ) → k < l.j → length (slice_index_or (map (λ m. padded_message m.now) l.messages) k []) ≡ 128)
