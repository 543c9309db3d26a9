-- Indices of a map are in increasing order if and only if they are in the order of their bits.
use Rattle.std.proofs.Common.{◌≡◌, ◌≢◌, ℕ, zero, suc, ◌+◌, ◌-◌, ◌*◌, ◌/◌, ◌%◌, ◌^◌, ◌==◌, ◌<◌, List, [], ◌∷◌, ◌++◌, Bool, true, false, refl, sym, ap, subst, ◌∙◌, arith, not, cond, slice_index, inl, inr}
use Rattle.std.specs.Int as int
use Rattle.std.proofs.Math.Nat.{pow-suc}
use Rattle.std.proofs.lemmas.Nat.Bits.{same_from_bits_below, bit_at-lt, bit_at-suc}
use Rattle.std.proofs.lemmas.Bool.{cases_lt}
use Rattle.coniks_proof.specs.Bits.{bit_at}
use Rattle.std.specs.List.{filter}
use Rattle.coniks_proof.specs.Entries.{Entry, half}
use Rattle.coniks_proof.specs.Changes.{InOrderWithin, AreInOrder, IsBefore, AllAfter, AreIncreasing}
use Rattle.coniks_proof.specs.Maps.{IsIndex, IsNew, IsMap}
use Rattle.coniks_proof.proofs.MapLemmas.{bit_of_byte, same_test, same_index, IsMap-filter, BeginAlike, BeginAlike-half, next_bits, alike_none}

half_below : (w a : ℕ) → a < 2 ^ suc w → a / 2 < 2 ^ w
half_below w a small = let e = pow-suc 2 w in omega (arith, e)

-- of two numbers with the same bits above bit i, the greater has the greater bit i
pub bigger_bit : (i w a b : ℕ) → a < 2 ^ w → b < 2 ^ w → i < w → ((j : ℕ) → i < j → j < w → int.bit_at a j ≡ int.bit_at b j) → a < b → int.bit_at a i ≡ 1 → int.bit_at b i ≡ 1
bigger_bit i zero a b ha hb hi agree less one = absurd (omega arith)
bigger_bit zero (suc w) a b ha hb hi agree less one =
    let same : a / 2 ≡ b / 2 = same_from_bits_below w (a / 2) (b / 2) (half_below w a ha) (half_below w b hb)
    (λ j h. sym (bit_at-suc a j) ∙ agree (suc j) (omega arith) (omega arith) ∙ bit_at-suc b j) in
    let low : a / 1 % 2 ≡ 1 = one in
    absurd (omega arith)
bigger_bit (suc i) (suc w) a b ha hb hi agree less one =
    let agree' : (j : ℕ) → i < j → j < w → int.bit_at (a / 2) j ≡ int.bit_at (b / 2) j =
    λ j above below. sym (bit_at-suc a j) ∙ agree (suc j) (omega arith) (omega arith) ∙ bit_at-suc b j in
    elim (cases_lt (a / 2) (b / 2)) [
      | inl smaller ↦ bit_at-suc b i ∙ bigger_bit i w (a / 2) (b / 2) (half_below w a ha) (half_below w b hb) (omega arith) agree' smaller (sym (bit_at-suc a i) ∙ one)
      | inr greater ↦ let same : b / 2 ≡ a / 2 = omega arith in bit_at-suc b i ∙ ap (λ n. int.bit_at n i) same ∙ sym (bit_at-suc a i) ∙ one
    ]

one_from : (n : ℕ) → n < 2 → (n == 1) ≡ true → n ≡ 1
one_from zero h t = cc
one_from (suc zero) h t = refl
one_from (suc (suc n)) h t = absurd (omega arith)

-- the bits of a byte from those of the index
byte_bits : (x y : List ℕ) (q i : ℕ) → i < 8 → bit_at x (8 * q + (7 - i)) ≡ bit_at y (8 * q + (7 - i)) → int.bit_at (slice_index x q) i ≡ int.bit_at (slice_index y q) i
byte_bits x y q i small same =
    same_test (int.bit_at (slice_index x q) i) (int.bit_at (slice_index y q) i) (bit_at-lt (slice_index x q) i) (bit_at-lt (slice_index y q) i)
    (sym (bit_of_byte x q i small) ∙ same ∙ bit_of_byte y q i small)

-- where the first bits agree, and the earlier index goes right, the later one does
pub later_right : (x y : List ℕ) (k : ℕ) → IsIndex x → IsIndex y → IsBefore x y → k < 256 → ((i : ℕ) → i < k → bit_at x i ≡ bit_at y i) → bit_at x k ≡ true → bit_at y k ≡ true
later_right x y k ix iy before short agree one =
    let q = k / 8 in
    let i = 7 - k % 8 in
    let small : i < 8 = omega arith in
    let at : 8 * q + (7 - i) ≡ k = omega arith in
    let x-bit : int.bit_at (slice_index x q) i ≡ 1 = one_from (int.bit_at (slice_index x q) i) (bit_at-lt (slice_index x q) i) (sym (bit_of_byte x q i small) ∙ ap (bit_at x) at ∙ one) in
    let finish : int.bit_at (slice_index y q) i ≡ 1 → bit_at y k ≡ true = λ e. sym (ap (bit_at y) at) ∙ bit_of_byte y q i small ∙ ap (λ n. n == 1) e in
    elim (cases_lt before.place q) [
      | inl early ↦
          let equal : slice_index x before.place ≡ slice_index y before.place =
          same_from_bits_below 8 (slice_index x before.place) (slice_index y before.place) (ix.range before.place before.within) (iy.range before.place before.within)
          (λ j h. byte_bits x y before.place j h (agree (8 * before.place + (7 - j)) (omega arith))) in
          absurd (omega (arith, equal, before.smaller))
      | inr late ↦ elim (cases_lt q before.place) [
        | inl later ↦ finish (ap (λ n. int.bit_at n i) (sym (before.same q later)) ∙ x-bit)
        | inr here ↦
            let place : before.place ≡ q = omega arith in
            let less : slice_index x q < slice_index y q = subst (λ n. slice_index x n < slice_index y n) place before.smaller in
            let in_q : q < 32 = omega arith in
            finish (bigger_bit i 8 (slice_index x q) (slice_index y q) (ix.range q in_q) (iy.range q in_q) small
            (λ j above below. byte_bits x y q j below (agree (8 * q + (7 - j)) (omega arith))) less x-bit)
      ]
    ]

AllAfter-filter : {B : Type 0} (index : List ℕ) (f : Entry B → Bool) (es : List (Entry B)) → AllAfter index es → AllAfter index (filter f es)
AllAfter-filter index f [] after = tt
AllAfter-filter index f (e ∷ es) after = elim (f e) as (λ b. AllAfter index (cond b (e ∷ filter f es) (filter f es))) [
  | true ↦ (after.0, AllAfter-filter index f es after.1)
  | false ↦ AllAfter-filter index f es after.1
]

AreIncreasing-filter : {B : Type 0} (f : Entry B → Bool) (es : List (Entry B)) → AreIncreasing es → AreIncreasing (filter f es)
AreIncreasing-filter f [] up = tt
AreIncreasing-filter f (e ∷ es) up = elim (f e) as (λ b. AreIncreasing (cond b (e ∷ filter f es) (filter f es))) [
  | true ↦ (up.0, AllAfter-filter e.index f es up.1, AreIncreasing-filter f es up.2)
  | false ↦ AreIncreasing-filter f es up.2
]

-- after an entry that goes right all go right
all_right_after : {B : Type 0} (k : ℕ) (bits : ℕ → Bool) (x : List ℕ) (es : List (Entry B)) → k < 256 → IsIndex x
    → ((i : ℕ) → i < k → bit_at x i ≡ bits i) → bit_at x k ≡ true → AllAfter x es → AreIncreasing es → BeginAlike k bits es
    → (half false k es ≡ []) × (half true k es ≡ es)
all_right_after k bits x [] short ix alike right after up each = (refl, refl)
all_right_after k bits x (e ∷ es) short ix alike right after up each =
    let rest = all_right_after k bits x es short ix alike right after.1 up.2 each.1 in
    let goes : bit_at e.index k ≡ true = later_right x e.index k ix up.0 after.0 short (λ i h. alike i h ∙ sym (each.0 i h)) right in
    (rw goes rest.0, rw goes (ap (λ xs. e ∷ xs) rest.1))

-- at a level the entries that go left come first
left_first : {B : Type 0} (k : ℕ) (bits : ℕ → Bool) (es : List (Entry B)) → k < 256 → AreIncreasing es → BeginAlike k bits es → es ≡ half false k es ++ half true k es
left_first k bits [] short up each = refl
left_first k bits (e ∷ es) short up each =
    (elim (bit_at e.index k) as (λ b. bit_at e.index k ≡ b → e ∷ es ≡ cond (not b) (e ∷ half false k es) (half false k es) ++ cond b (e ∷ half true k es) (half true k es)) [
      | true ↦ λ goes. let rest = all_right_after k bits e.index es short up.0 each.0 goes up.1 up.2 each.1 in rw (rest.0, rest.1) refl
      | false ↦ λ goes. ap (λ xs. e ∷ xs) (left_first k bits es short up.2 each.1)
    ]) refl

in_order_within : {B : Type 0} (h k : ℕ) (bits : ℕ → Bool) (es : List (Entry B)) → k + h ≡ 256 → IsMap es → AreIncreasing es → BeginAlike k bits es → InOrderWithin h k es
unfolding InOrderWithin
in_order_within zero k bits [] full map up alike = omega arith
in_order_within zero k bits (e ∷ []) full map up alike = omega arith
in_order_within zero k bits (e ∷ f ∷ es) full map up alike =
    let last : k ≡ 256 = omega arith in
    absurd (map.1.0 (same_index e.index f.index map.0 map.2.0 (λ i below. let in_k : i < k = omega arith in alike.0 i in_k ∙ sym (alike.1.0 i in_k))))
in_order_within (suc h) k bits es full map up alike = (
  left_first k bits es (omega arith) up alike,
  in_order_within h (suc k) (next_bits k bits false) (half false k es) (omega arith) (IsMap-filter _ es map) (AreIncreasing-filter _ es up) (BeginAlike-half false k bits es alike),
  in_order_within h (suc k) (next_bits k bits true) (half true k es) (omega arith) (IsMap-filter _ es map) (AreIncreasing-filter _ es up) (BeginAlike-half true k bits es alike),
)

-- entries in increasing order of index are in the order of their bits
pub AreIncreasing-in_order : {B : Type 0} (es : List (Entry B)) → IsMap es → AreIncreasing es → AreInOrder 0 es
unfolding AreInOrder
AreIncreasing-in_order es map up = in_order_within 256 0 (λ _. false) es refl map up (alike_none es)

-- an index that comes before another is another
before_apart : (x y : List ℕ) → IsBefore x y → x ≢ y
before_apart x y before same = let small : slice_index x before.place < slice_index x before.place = subst
    (λ z. slice_index x before.place < slice_index z before.place) (sym same) before.smaller in absurd (omega (arith, small))

after_new : {B : Type 0} (index : List ℕ) (es : List (Entry B)) → AllAfter index es → IsNew index es
after_new index [] after = tt
after_new index (e ∷ es) after = (before_apart index e.index after.0, after_new index es after.1)

-- entries in increasing order of index are a map
pub increasing_map : {B : Type 0} (es : List (Entry B)) → AreIncreasing es → IsMap es
increasing_map [] rising = tt
increasing_map (e ∷ es) rising = (rising.0, after_new e.index es rising.1, increasing_map es rising.2)

-- where the first bits agree, an index that goes left comes before one that goes right
left_before : (x y : List ℕ) (k : ℕ) → IsIndex x → IsIndex y → k < 256 → ((i : ℕ) → i < k → bit_at x i ≡ bit_at y i) → bit_at x k ≡ false → bit_at y k ≡ true → IsBefore x y
left_before x y k ix iy short agree left right =
    let q = k / 8 in
    let i = 7 - k % 8 in
    let small : i < 8 = omega arith in
    let at : 8 * q + (7 - i) ≡ k = omega arith in
    let in_q : q < 32 = omega arith in
    let y-bit : int.bit_at (slice_index y q) i ≡ 1 = one_from (int.bit_at (slice_index y q) i) (bit_at-lt (slice_index y q) i) (sym (bit_of_byte y q i small) ∙ ap (bit_at y) at ∙ right) in
    let x-test : (int.bit_at (slice_index x q) i == 1) ≡ false = sym (bit_of_byte x q i small) ∙ ap (bit_at x) at ∙ left in
    let x-not : int.bit_at (slice_index x q) i ≡ 1 → ⊥ = λ one. let test = ap (λ n. n == 1) one in cc in
    record {
      place = q;
      within = in_q;
      same = λ r before. let in_r : r < 32 = omega arith in
          same_from_bits_below 8 (slice_index x r) (slice_index y r) (ix.range r in_r) (iy.range r in_r)
          (λ j h. byte_bits x y r j h (agree (8 * r + (7 - j)) (omega arith)));
      smaller = elim (cases_lt (slice_index x q) (slice_index y q)) [
        | inl less ↦ less
        | inr most ↦ elim (cases_lt (slice_index y q) (slice_index x q)) [
          | inl greater ↦ absurd (x-not (bigger_bit i 8 (slice_index y q) (slice_index x q) (iy.range q in_q) (ix.range q in_q) small
              (λ j above below. byte_bits y x q j below (sym (agree (8 * q + (7 - j)) (omega arith)))) greater y-bit))
          | inr least ↦ let same : slice_index y q ≡ slice_index x q = omega arith in absurd (x-not (sym (ap (λ n. int.bit_at n i) same) ∙ y-bit))
        ]
      ];
    }

-- entries that begin alike and go left at a level come before those that go right
left_before_all : {B : Type 0} (k : ℕ) (bits : ℕ → Bool) (x : List ℕ) (es : List (Entry B)) → k < 256 → IsIndex x → ((i : ℕ) → i < k → bit_at x i ≡ bits i) → bit_at x k ≡ false
    → IsMap es → BeginAlike k bits es → AllAfter x (half true k es)
left_before_all k bits x [] short ix alike left map each = tt
left_before_all {B} k bits x (e ∷ es) short ix alike left map each =
    let rest = left_before_all k bits x es short ix alike left map.2 each.1 in
    (elim (bit_at e.index k) as (λ v. bit_at e.index k ≡ v → AllAfter x (cond v (e ∷ half true k es) (half true k es))) [
      | true ↦ λ right. (left_before x e.index k ix map.0 short (λ i h. alike i h ∙ sym (each.0 i h)) left right, rest)
      | false ↦ λ off. rest
    ]) refl

AllAfter-append : {B : Type 0} (x : List ℕ) (es fs : List (Entry B)) → AllAfter x es → AllAfter x fs → AllAfter x (es ++ fs)
AllAfter-append x [] fs one two = two
AllAfter-append x (e ∷ es) fs one two = (one.0, AllAfter-append x es fs one.1 two)

-- those that go left, and after them those that go right
sides_increasing : {B : Type 0} (k : ℕ) (bits : ℕ → Bool) (es fs : List (Entry B)) → k < 256 → IsMap es → IsMap fs → BeginAlike k bits es → BeginAlike k bits fs
    → AreIncreasing (half false k es) → AreIncreasing (half true k fs) → AreIncreasing (half false k es ++ half true k fs)
sides_increasing k bits [] fs short map map' each each' = λ up up'. up'
sides_increasing {B} k bits (e ∷ es) fs short map map' each each' =
    (elim (bit_at e.index k) as (λ v. bit_at e.index k ≡ v → AreIncreasing (cond (not v) (e ∷ half false k es) (half false k es)) → AreIncreasing (half true k fs)
    → AreIncreasing (cond (not v) (e ∷ half false k es) (half false k es) ++ half true k fs)) [
      | true ↦ λ right up up'. sides_increasing k bits es fs short map.2 map' each.1 each' up up'
      | false ↦ λ left up up'. (
        up.0,
        AllAfter-append e.index (half false k es) (half true k fs) up.1 (left_before_all k bits e.index fs short map.0 each.0 left map' each'),
        sides_increasing k bits es fs short map.2 map' each.1 each' up.2 up',
      )
    ]) refl

increasing_within : {B : Type 0} (h k : ℕ) (bits : ℕ → Bool) (es : List (Entry B)) → k + h ≡ 256 → IsMap es → BeginAlike k bits es → InOrderWithin h k es → AreIncreasing es
unfolding InOrderWithin
increasing_within zero k bits [] full map alike ordered = tt
increasing_within zero k bits (e ∷ []) full map alike ordered = (map.0, tt, tt)
increasing_within zero k bits (e ∷ f ∷ es) full map alike ordered = absurd (omega arith)
increasing_within (suc h) k bits es full map alike ordered =
    let left = increasing_within h (suc k) (next_bits k bits false) (half false k es) (omega arith) (IsMap-filter _ es map) (BeginAlike-half false k bits es alike) ordered.1 in
    let right = increasing_within h (suc k) (next_bits k bits true) (half true k es) (omega arith) (IsMap-filter _ es map) (BeginAlike-half true k bits es alike) ordered.2 in
    subst AreIncreasing (sym ordered.0) (sides_increasing k bits es es (omega arith) map map alike alike left right)

-- entries of a map in the order of their bits are in increasing order of index
pub in_order-AreIncreasing : {B : Type 0} (es : List (Entry B)) → IsMap es → AreInOrder 0 es → AreIncreasing es
unfolding AreInOrder
in_order-AreIncreasing es map ordered = increasing_within 256 0 (λ _. false) es refl map (alike_none es) ordered
