use Rattle.std.proofs.Common.{◌≡◌, ℕ, ◌<◌, List, map, slice_index, ◌*◌}
use Rattle.sha2.specs.Sha256.{IsRoundsAt, word_at}
use Rattle.coniks_lanes.proofs.rounds.compress_words.Given as goal

abbrev pub invariant-schedule : goal.invariant-schedule
invariant-schedule g l = (j : ℕ) → j < g.W.Words.lanes → (b : List ℕ)
    → ((k : ℕ) → k < 16 → slice_index (map (g.W.Words.lane j) l.initial.w) k ≡ word_at b (4 * k))
    → IsRoundsAt b (map (g.W.Words.lane j) l.state) (map (g.W.Words.lane j) l.w) (map (g.W.Words.lane j) l.v) (16 * l.turn)
