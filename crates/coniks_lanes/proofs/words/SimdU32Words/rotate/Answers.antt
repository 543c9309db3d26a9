use Rattle.std.proofs.Common.{◌≡◌, ℕ, ◌/◌, ◌*◌, ◌-◌, ◌%◌, ◌^◌, ◌<◌, ap, ◌∙◌, slice_index, bit_or, replicate, arith, mod-lt, pow_pos}
use Rattle.std.proofs.lemmas.Nat.{shr_le, or_lt}
use Rattle.std.proofs.lemmas.Simd.{get_or-zip2, get_or-replicate, length-replicate, length-zip2, shifts_fit_splat}
use Rattle.coniks_lanes.proofs.WordLemmas.{lane_fits, lane_low}
use Rattle.coniks_lanes.proofs.words.SimdU32Words.rotate.Goals as goal

pub overflow_shr-result : goal.overflow_shr-result
overflow_shr-result g c = shifts_fit_splat 32 c.args.self g.row.N c.args.by c.requires.high

pub overflow_shl-result : goal.overflow_shl-result
overflow_shl-result g c = shifts_fit_splat 32 c.args.self g.row.N (32 - c.args.by) (omega (arith, c.requires.low))

pub returns : goal.returns
returns g c = λ j lt.
    let n : ℕ = g.row.N in
    let by : ℕ = c.args.by in
    let x : ℕ = slice_index c.args.self j in
    let low : x % 2 ^ 32 ≡ x = lane_low c.args.self n j c.fits-self lt in
    let fits : x < 2 ^ 32 = lane_fits c.args.self n j c.fits-self lt in
    let r : by ≡ by % 32 = omega (arith, c.requires.high) in
    let l : 32 - by ≡ (32 - by % 32) % 32 = omega (arith, c.requires.low, c.requires.high) in
    let splat = length-replicate {A = ℕ} n by in
    let splat_l = length-replicate {A = ℕ} n (32 - by) in
    let right = get_or-zip2 (λ (a b : ℕ). a / 2 ^ b) c.args.self _ j 0 0 0 (omega (arith, c.fits-self.0)) (omega (arith, splat))
    ∙ ap (λ (k : ℕ). x / 2 ^ k) (get_or-replicate n j by 0 lt ∙ r) in
    let left = get_or-zip2 (λ (a b : ℕ). a * 2 ^ b % 2 ^ 32) c.args.self _ j 0 0 0 (omega (arith, c.fits-self.0)) (omega (arith, splat_l))
    ∙ ap (λ (k : ℕ). x * 2 ^ k % 2 ^ 32) (get_or-replicate n j (32 - by) 0 lt ∙ l) in
    let len_r = length-zip2 (λ (a b : ℕ). a / 2 ^ b) c.args.self (replicate n by) (omega (arith, c.fits-self.0, splat)) in
    let len_l = length-zip2 (λ (a b : ℕ). a * 2 ^ b % 2 ^ 32) c.args.self (replicate n (32 - by)) (omega (arith, c.fits-self.0, splat_l)) in
    let both = get_or-zip2 bit_or _ _ j 0 0 0 (omega (arith, len_r, c.fits-self.0)) (omega (arith, len_l, c.fits-self.0)) ∙ (λ i. bit_or (right i) (left i)) in
    let small = or_lt 32 (x / 2 ^ (by % 32)) (x * 2 ^ ((32 - by % 32) % 32) % 2 ^ 32) (omega (arith, shr_le x (by % 32), fits)) (mod-lt _ (pow_pos 32)) in
    rw (both, low) (omega (arith, small))
