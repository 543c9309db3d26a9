use Rattle.std.proofs.Common.{◌≡◌, ℕ, ◌/◌, ◌%◌, ◌^◌, ap, ◌∙◌, slice_index, arith}
use Rattle.std.proofs.lemmas.Nat.{shr_le}
use Rattle.std.proofs.lemmas.Simd.{get_or-zip2, get_or-replicate, length-replicate, shifts_fit_splat}
use Rattle.coniks_lanes.proofs.WordLemmas.{lane_fits, lane_low}
use Rattle.coniks_lanes.proofs.words.SimdU32Words.shift.Goals as goal

pub overflow_shr-result : goal.overflow_shr-result
overflow_shr-result g c = shifts_fit_splat 32 c.args.self g.row.N c.args.by c.requires

pub returns : goal.returns
returns g c = λ j lt.
    let x : ℕ = slice_index c.args.self j in
    let low : x % 2 ^ 32 ≡ x = lane_low c.args.self g.row.N j c.fits-self lt in
    let shifted = get_or-zip2 (λ (a b : ℕ). a / 2 ^ b) c.args.self _ j 0 0 0 (omega (arith, c.fits-self.0)) (omega (arith, length-replicate {A = ℕ} g.row.N c.args.by))
    ∙ ap (λ (k : ℕ). x / 2 ^ k) (get_or-replicate g.row.N j c.args.by 0 lt) in
    rw (shifted, low) (omega (arith, shr_le x c.args.by, lane_fits c.args.self g.row.N j c.fits-self lt))
