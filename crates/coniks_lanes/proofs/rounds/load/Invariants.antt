use Rattle.std.proofs.Common.{◌≡◌, ℕ, ◌*◌, ◌<◌, [], length, map, slice_index, slice_index_or}
use Rattle.sha2.specs.Sha256.{padded_message, word_at}
use Rattle.coniks_lanes.specs.Messages.{block}
use Rattle.coniks_lanes.proofs.rounds.load.Given as goal

abbrev pub invariant-load : goal.invariant-load
invariant-load g l = (length l.w ≡ 16) × ((j : ℕ) → j < g.W.Words.lanes → (k : ℕ) → k < l.i
    → slice_index (map (g.W.Words.lane j) l.w) k ≡ word_at (slice_index_or (map (λ m. block l.number m.now) l.messages) j []) (4 * k))
    × (0 < l.i → (j : ℕ) → j < g.W.Words.lanes → length (slice_index_or (map (λ m. padded_message m.now) l.messages) j []) ≡ 128)
