use Rattle.std.proofs.Common.{ℕ, ◌%◌, ◌^◌, ap, ◌∙◌, slice_index, bit_xor, arith}
use Rattle.std.proofs.lemmas.Nat.{xor_mod}
use Rattle.std.proofs.lemmas.Simd.{get_or-zip2}
use Rattle.coniks_lanes.proofs.words.SimdU32Words.xor.Goals as goal

pub returns : goal.returns
returns g c = λ j lt.
    ap (λ (n : ℕ). n % 2 ^ 32) (get_or-zip2 bit_xor c.args.self c.args.other j 0 0 0 (omega (arith, c.fits-self.0)) (omega (arith, c.fits-other.0)))
    ∙ xor_mod (slice_index c.args.self j) (slice_index c.args.other j) 32
