-- The limits of workers, of the board and of the claims.
use Rattle.std.specs.Prelude.{ℕ}

-- the most workers that build a part
abbrev pub most_workers : ℕ
most_workers = 64

-- the most bits of the prefixes that are built apart
abbrev pub deepest_cut : ℕ
deepest_cut = 12

-- the most heads that a board takes
abbrev pub most_heads : ℕ
most_heads = 65536

-- the most numbers that one claims object takes
abbrev pub most_numbers : ℕ
most_numbers = 4096

-- the most drawers that one claims object has
abbrev pub most_drawers : ℕ
most_drawers = 64
