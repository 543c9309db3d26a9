-- Rotations of words of 32 bits, bit by bit: nested in exclusive ors, each rotates further what is within it.
use Rattle.std.proofs.Common.{◌≡◌, ℕ, ◌+◌, ◌-◌, ◌*◌, ◌/◌, ◌%◌, ◌^◌, ◌<◌, ◌≤◌, max, inl, inr, bit_or, bit_xor, sym, ap, ◌∙◌, arith, add-zero, refl, mod-lt, pow_pos, shr-shr}
use Rattle.std.proofs.lemmas.Bool.{cases_lt}
use Rattle.std.proofs.lemmas.Nat.{or_lt, shr_le, xor_lt}
use Rattle.std.proofs.lemmas.Nat.Bits.{bit_at-zero, bit_at_above, bit_at_cat_low, bit_at_cat_high, bit_at_or, bit_at_xor, same_from_bits_below}
use Rattle.std.specs.Int.{bit_at}

-- a word rotated right by k, from 1 to 31
abbrev pub rotated : ℕ → ℕ → ℕ
rotated x k = bit_or (x / 2 ^ k) (x * 2 ^ (32 - k) % 2 ^ 32)

pub rotated_fits : (x k : ℕ) → x < 2 ^ 32 → rotated x k < 2 ^ 32
rotated_fits x k fits = or_lt 32 (x / 2 ^ k) (x * 2 ^ (32 - k) % 2 ^ 32) (omega (arith, shr_le x k)) (mod-lt _ (pow_pos 32))

-- what is shifted out on the left of 32 bits makes no difference to them
low_bit : (y i : ℕ) → i < 32 → bit_at (y % 2 ^ 32) i ≡ bit_at y i
low_bit y i lt =
    let whole : y / 2 ^ 32 * 2 ^ 32 + y % 2 ^ 32 ≡ y = omega arith in
    sym (bit_at_cat_low (y / 2 ^ 32) 32 (y % 2 ^ 32) i lt) ∙ ap (λ (n : ℕ). bit_at n i) whole

left_low : (x m i : ℕ) → i < m → bit_at (x * 2 ^ m) i ≡ 0
left_low x m i lt = ap (λ (n : ℕ). bit_at n i) (sym (add-zero (x * 2 ^ m))) ∙ bit_at_cat_low x m 0 i lt ∙ bit_at-zero i

left_high : (x m i : ℕ) → m ≤ i → bit_at (x * 2 ^ m) i ≡ bit_at x (i - m)
left_high x m i le = ap (λ (n : ℕ). bit_at n i) (sym (add-zero (x * 2 ^ m))) ∙ bit_at_cat_high x m 0 i (pow_pos m) le

-- each bit comes from k places further left, round the end
pub rotated_bit : (x k i : ℕ) → x < 2 ^ 32 → 0 < k → k < 32 → i < 32 → bit_at (rotated x k) i ≡ bit_at x ((i + k) % 32)
rotated_bit x k i fits low high lt =
    let right : bit_at (x / 2 ^ k) i ≡ bit_at x (k + i) = ap (λ (n : ℕ). n % 2) (shr-shr x k i) in
    let left : bit_at (x * 2 ^ (32 - k) % 2 ^ 32) i ≡ bit_at (x * 2 ^ (32 - k)) i = low_bit (x * 2 ^ (32 - k)) i lt in
    bit_at_or (x / 2 ^ k) (x * 2 ^ (32 - k) % 2 ^ 32) i ∙ (λ j. max (right j) (left j))
    ∙ elim (cases_lt (k + i) 32) [
      | inl within ↦
          let none = left_low x (32 - k) i (omega arith) in
          let place : k + i ≡ (i + k) % 32 = omega arith in
          rw none (omega arith) ∙ ap (bit_at x) place
      | inr beyond ↦
          let none = bit_at_above x 32 (k + i) fits (omega arith) in
          let some = left_high x (32 - k) i (omega arith) in
          let place : i - (32 - k) ≡ (i + k) % 32 = omega arith in
          rw (none, some) (omega arith) ∙ ap (bit_at x) place
    ]

-- the rotation by a of x and of its rotation by b
pub rotated_two : (x a b : ℕ) → x < 2 ^ 32 → 0 < a → 0 < b → a + b < 32
    → rotated (bit_xor x (rotated x b)) a ≡ bit_xor (rotated x a) (rotated x (a + b))
rotated_two x a b fits a_low b_low high =
    let both : bit_xor x (rotated x b) < 2 ^ 32 = xor_lt 32 x (rotated x b) fits (rotated_fits x b fits) in
    same_from_bits_below 32 _ _ (rotated_fits (bit_xor x (rotated x b)) a both)
    (xor_lt 32 (rotated x a) (rotated x (a + b)) (rotated_fits x a fits) (rotated_fits x (a + b) fits)) (λ i lt.
    let i_a : ℕ = (i + a) % 32 in
    let within : i_a < 32 = omega arith in
    let place : (i_a + b) % 32 ≡ (i + (a + b)) % 32 = omega arith in
    rw (
      rotated_bit (bit_xor x (rotated x b)) a i both a_low (omega arith) lt,
      bit_at_xor x (rotated x b) i_a,
      rotated_bit x b i_a fits b_low (omega arith) within,
      place,
      bit_at_xor (rotated x a) (rotated x (a + b)) i,
      rotated_bit x a i fits a_low (omega arith) lt,
      rotated_bit x (a + b) i fits (omega arith) high lt,
    )
    refl)

-- the rotation by a of x and of that by b of x and of its rotation by c
pub rotated_three : (x a b c : ℕ) → x < 2 ^ 32 → 0 < a → 0 < b → 0 < c → a + (b + c) < 32
    → rotated (bit_xor x (rotated (bit_xor x (rotated x c)) b)) a ≡ bit_xor (bit_xor (rotated x a) (rotated x (a + b))) (rotated x (a + (b + c)))
rotated_three x a b c fits a_low b_low c_low high =
    let inner = rotated_two x b c fits b_low c_low (omega arith) in
    let two : bit_xor (rotated x b) (rotated x (b + c)) < 2 ^ 32 =
    xor_lt 32 (rotated x b) (rotated x (b + c)) (rotated_fits x b fits) (rotated_fits x (b + c) fits) in
    let all : bit_xor x (bit_xor (rotated x b) (rotated x (b + c))) < 2 ^ 32 = xor_lt 32 x _ fits two in
    let outer : bit_xor (rotated x a) (rotated x (a + b)) < 2 ^ 32 =
    xor_lt 32 (rotated x a) (rotated x (a + b)) (rotated_fits x a fits) (rotated_fits x (a + b) fits) in
    ap (λ (y : ℕ). rotated (bit_xor x y) a) inner
    ∙ same_from_bits_below 32 _ _ (rotated_fits (bit_xor x (bit_xor (rotated x b) (rotated x (b + c)))) a all)
    (xor_lt 32 _ (rotated x (a + (b + c))) outer (rotated_fits x (a + (b + c)) fits)) (λ i lt.
    let i_a : ℕ = (i + a) % 32 in
    let within : i_a < 32 = omega arith in
    let near : (i_a + b) % 32 ≡ (i + (a + b)) % 32 = omega arith in
    let far : (i_a + (b + c)) % 32 ≡ (i + (a + (b + c))) % 32 = omega arith in
    rw (
      rotated_bit (bit_xor x (bit_xor (rotated x b) (rotated x (b + c)))) a i all a_low (omega arith) lt,
      bit_at_xor x (bit_xor (rotated x b) (rotated x (b + c))) i_a,
      bit_at_xor (rotated x b) (rotated x (b + c)) i_a,
      rotated_bit x b i_a fits b_low (omega arith) within,
      rotated_bit x (b + c) i_a fits (omega arith) (omega arith) within,
      near,
      far,
      bit_at_xor (bit_xor (rotated x a) (rotated x (a + b))) (rotated x (a + (b + c))) i,
      bit_at_xor (rotated x a) (rotated x (a + b)) i,
      rotated_bit x a i fits a_low (omega arith) lt,
      rotated_bit x (a + b) i fits (omega arith) (omega arith) lt,
      rotated_bit x (a + (b + c)) i fits (omega arith) high lt,
    )
    (omega arith))
