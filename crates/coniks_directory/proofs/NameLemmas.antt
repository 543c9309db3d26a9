-- How names compare, eight bytes at once.
use Rattle.std.proofs.Common.{◌≡◌, ◌≢◌, ℕ, zero, suc, ◌+◌, ◌*◌, ◌^◌, ◌<◌, ◌≤◌, List, [], ◌∷◌, refl, sym, ap, subst, ◌∙◌, arith, length, take, drop, get_or, min, w64}
use Rattle.std.proofs.Math.Nat.{mul-le-mul_right, pow-suc}
use Rattle.std.proofs.lemmas.List.{length-take-le}
use Rattle.std.specs.Cmp.{nat_cmp_is, ranks}
use Rattle.std.specs.Cmp.Lexicographic.{slice_cmp}
use Rattle.std.specs.Int.{from_be_bytes}
use Rattle.std.specs.Ordering.{MatchOrdering, nat_cmp, ordering_then}
use Rattle.std.specs.declared.cmp.Ordering.{Ordering}
use Rattle.std.specs.declared.cmp.Ordering.TheVariants.{Equal, Greater, Less}

-- two numbers compare as two others that lie in the same way
like : (x y z w : ℕ) (r : Ordering) → MatchOrdering r (x < y) (x ≡ y) (y < x) → (x < y → z < w) → (x ≡ y → z ≡ w) → (y < x → w < z) → nat_cmp z w ≡ r
like x y z w Less at less same more = sym (nat_cmp_is z w Less (less at))
like x y z w Equal at less same more = sym (nat_cmp_is z w Equal (same at))
like x y z w Greater at less same more = sym (nat_cmp_is z w Greater (more at))

-- where one list has ended, the lengths decide
pub ended : (xs ys : List ℕ) (i : ℕ) → i ≡ min (length xs) (length ys) → nat_cmp (length xs) (length ys) ≡ slice_cmp nat_cmp (drop i xs) (drop i ys)
ended [] [] zero at = refl
ended [] [] (suc i) at = absurd (omega arith)
ended [] (y ∷ ys) zero at = sym (nat_cmp_is 0 (suc (length ys)) Less (omega arith))
ended [] (y ∷ ys) (suc i) at = absurd (omega arith)
ended (x ∷ xs) [] zero at = sym (nat_cmp_is (suc (length xs)) 0 Greater (omega arith))
ended (x ∷ xs) [] (suc i) at = absurd (omega arith)
ended (x ∷ xs) (y ∷ ys) zero at = absurd (omega arith)
ended (x ∷ xs) (y ∷ ys) (suc i) at =
    like (length xs) (length ys) (suc (length xs)) (suc (length ys)) _ (ranks (length xs) (length ys)) (λ h. omega arith) (λ h. omega arith) (λ h. omega arith)
    ∙ ended xs ys i (omega arith)

-- the number that bytes spell, the greatest first
abbrev pub number : List ℕ → ℕ
number [] = 0
number (b ∷ bs) = b * 256 ^ length bs + number bs

abbrev pub AreBytes : List ℕ → Type 0
AreBytes bs = (k : ℕ) → get_or bs k 0 < 256

-- eight bytes spell the number that `from_be_bytes` returns
pub spelt : (bs : List ℕ) → length bs ≡ 8 → from_be_bytes w64 bs ≡ number bs
spelt (a ∷ b ∷ c ∷ d ∷ e ∷ f ∷ g ∷ h ∷ []) _ = omega arith
spelt [] n = absurd (omega arith)
spelt (_ ∷ []) n = absurd (omega arith)
spelt (_ ∷ _ ∷ []) n = absurd (omega arith)
spelt (_ ∷ _ ∷ _ ∷ []) n = absurd (omega arith)
spelt (_ ∷ _ ∷ _ ∷ _ ∷ []) n = absurd (omega arith)
spelt (_ ∷ _ ∷ _ ∷ _ ∷ _ ∷ []) n = absurd (omega arith)
spelt (_ ∷ _ ∷ _ ∷ _ ∷ _ ∷ _ ∷ []) n = absurd (omega arith)
spelt (_ ∷ _ ∷ _ ∷ _ ∷ _ ∷ _ ∷ _ ∷ []) n = absurd (omega arith)
spelt (_ ∷ _ ∷ _ ∷ _ ∷ _ ∷ _ ∷ _ ∷ _ ∷ _ ∷ bs) n = absurd (omega arith)

-- a greater first digit makes a greater number
apart : (p x y u v : ℕ) → x < y → u < p → x * p + u < y * p + v
apart p x y u v less small =
    let step : suc x * p ≤ y * p = mul-le-mul_right p (omega arith) in
    omega arith

under : (bs : List ℕ) → AreBytes bs → number bs < 256 ^ length bs
under [] bytes = omega arith
under (b ∷ bs) bytes =
    let rest = under bs (λ k. bytes (suc k)) in
    let first : b < 256 = bytes 0 in
    let step : suc b * 256 ^ length bs ≤ 256 * 256 ^ length bs = mul-le-mul_right (256 ^ length bs) (omega arith) in
    let whole : 256 ^ suc (length bs) ≡ 256 ^ length bs * 256 = pow-suc 256 (length bs) in
    omega arith

-- as many bytes compare as the numbers that they spell
pub ranked_as : (xs ys : List ℕ) → length xs ≡ length ys → AreBytes xs → AreBytes ys → nat_cmp (number xs) (number ys) ≡ slice_cmp nat_cmp xs ys
ranked_as [] [] even bytes also = refl
ranked_as [] (y ∷ ys) even bytes also = absurd (omega arith)
ranked_as (x ∷ xs) [] even bytes also = absurd (omega arith)
ranked_as (x ∷ xs) (y ∷ ys) even bytes also = by (ranked_as xs ys (omega arith) (λ k. bytes (suc k)) (λ k. also (suc k))) (nat_cmp x y) refl (ranks x y)
  where
    as_long : length xs ≡ length ys
    as_long = omega arith

    power : 256 ^ length xs ≡ 256 ^ length ys
    power = ap (λ n. 256 ^ n) as_long

    small : number xs < 256 ^ length ys
    small = subst (λ p. number xs < p) power (under xs (λ k. bytes (suc k)))

    least : number ys < 256 ^ length ys
    least = under ys (λ k. also (suc k))

    by : nat_cmp (number xs) (number ys) ≡ slice_cmp nat_cmp xs ys
        → (r : Ordering) → nat_cmp x y ≡ r → MatchOrdering r (x < y) (x ≡ y) (y < x) → nat_cmp (number (x ∷ xs)) (number (y ∷ ys)) ≡ slice_cmp nat_cmp (x ∷ xs) (y ∷ ys)
    by rest Less e h =
        let first : x < y = h in
        let lower = apart (256 ^ length ys) x y (number xs) (number ys) first small in
        sym (nat_cmp_is _ _ Less (subst (λ p. x * p + number xs < number (y ∷ ys)) (sym power) lower)) ∙ sym (ap (λ o. ordering_then o (slice_cmp nat_cmp xs ys)) e)
    by rest Greater e h =
        let first : y < x = h in
        let lower = apart (256 ^ length ys) y x (number ys) (number xs) first least in
        sym (nat_cmp_is _ _ Greater (subst (λ p. number (y ∷ ys) < x * p + number xs) (sym power) lower)) ∙ sym (ap (λ o. ordering_then o (slice_cmp nat_cmp xs ys)) e)
    by rest Equal e h =
        let first : x ≡ y = h in
        let heads : x * 256 ^ length xs ≡ y * 256 ^ length ys = (λ i. first i * power i) in
        like (number xs) (number ys) (number (x ∷ xs)) (number (y ∷ ys)) _ (ranks (number xs) (number ys)) (λ l. omega arith) (λ l. omega arith) (λ l. omega arith)
        ∙ rest
        ∙ sym (ap (λ o. ordering_then o (slice_cmp nat_cmp xs ys)) e)

then_then : (o p q : Ordering) → ordering_then o (ordering_then p q) ≡ ordering_then (ordering_then o p) q
then_then Less p q = refl
then_then Equal p q = refl
then_then Greater p q = refl

-- two lists compare by their first n elements, and then by the others
pub parted : (n : ℕ) (xs ys : List ℕ) → n ≤ length xs → n ≤ length ys
    → slice_cmp nat_cmp xs ys ≡ ordering_then (slice_cmp nat_cmp (take n xs) (take n ys)) (slice_cmp nat_cmp (drop n xs) (drop n ys))
parted zero xs ys _ _ = refl
parted (suc n) [] ys l m = absurd (omega arith)
parted (suc n) (x ∷ xs) [] l m = absurd (omega arith)
parted (suc n) (x ∷ xs) (y ∷ ys) l m = ap (ordering_then (nat_cmp x y)) (parted n xs ys (omega arith) (omega arith)) ∙ then_then (nat_cmp x y) _ _

bytes_take : (n : ℕ) (bs : List ℕ) → AreBytes bs → AreBytes (take n bs)
bytes_take zero bs bytes k = omega arith
bytes_take (suc n) [] bytes k = omega arith
bytes_take (suc n) (b ∷ bs) bytes zero = bytes 0
bytes_take (suc n) (b ∷ bs) bytes (suc k) = bytes_take n bs (λ j. bytes (suc j)) k

pub bytes_drop : (n : ℕ) (bs : List ℕ) → AreBytes bs → AreBytes (drop n bs)
bytes_drop zero bs bytes = bytes
bytes_drop (suc n) [] bytes = bytes
bytes_drop (suc n) (b ∷ bs) bytes = bytes_drop n bs (λ k. bytes (suc k))

-- the first eight bytes as numbers: if these differ, they decide, and if not, the other bytes do
module _ (xs ys : List ℕ) (l : 8 ≤ length xs) (m : 8 ≤ length ys) (bytes : AreBytes xs) (also : AreBytes ys) (x y : ℕ)
    (of_x : x ≡ from_be_bytes w64 (take 8 xs)) (of_y : y ≡ from_be_bytes w64 (take 8 ys)) where
  fronts : nat_cmp x y ≡ slice_cmp nat_cmp (take 8 xs) (take 8 ys)
  fronts =
      let long : length (take 8 xs) ≡ 8 = length-take-le 8 xs l in
      let as_long : length (take 8 ys) ≡ 8 = length-take-le 8 ys m in
      (λ i. nat_cmp ((of_x ∙ spelt (take 8 xs) long) i) ((of_y ∙ spelt (take 8 ys) as_long) i))
      ∙ ranked_as (take 8 xs) (take 8 ys) (long ∙ sym as_long) (bytes_take 8 xs bytes) (bytes_take 8 ys also)

  abbrev rest : Ordering → Ordering
  rest o = ordering_then o (slice_cmp nat_cmp (drop 8 xs) (drop 8 ys))

  pub decided : x ≢ y → nat_cmp x y ≡ slice_cmp nat_cmp xs ys
  decided differ = by (nat_cmp x y) refl (ranks x y)
    where
      by : (r : Ordering) → nat_cmp x y ≡ r → MatchOrdering r (x < y) (x ≡ y) (y < x) → nat_cmp x y ≡ slice_cmp nat_cmp xs ys
      by Less e h = e ∙ sym (parted 8 xs ys l m ∙ ap rest (sym fronts ∙ e))
      by Greater e h = e ∙ sym (parted 8 xs ys l m ∙ ap rest (sym fronts ∙ e))
      by Equal e h = absurd (differ h)

  pub passed : x ≡ y → slice_cmp nat_cmp (drop 8 xs) (drop 8 ys) ≡ slice_cmp nat_cmp xs ys
  passed same = sym (parted 8 xs ys l m ∙ ap rest (sym fronts ∙ sym (nat_cmp_is x y Equal same)))
