-- A lane of a vector of words.
use Rattle.std.proofs.Common.{◌≡◌, ℕ, ◌%◌, ◌^◌, ◌<◌, List, length, slice_index, arith}
use Rattle.std.proofs.lemmas.Simd.{Each1-get_or}
use lib.Lanes.{Each1}
use mir.Syntax.{w32}
use mir.Val.{Fits}

-- a lane has 32 bits
pub lane_fits : (v : List ℕ) (n j : ℕ) → (length v ≡ n) × Each1 (Fits w32) v → j < n → slice_index v j < 2 ^ 32
lane_fits v n j (long, fits) lt = (Each1-get_or (Fits w32) v j 0 (omega arith) fits).fits

pub lane_low : (v : List ℕ) (n j : ℕ) → (length v ≡ n) × Each1 (Fits w32) v → j < n → slice_index v j % 2 ^ 32 ≡ slice_index v j
lane_low v n j fits lt = omega (arith, lane_fits v n j fits lt)
