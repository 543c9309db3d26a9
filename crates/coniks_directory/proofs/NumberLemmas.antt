-- Lists whose elements have increasing numbers, and the search for an element by its number.
use Rattle.std.proofs.Common.{◌≡◌, ◌==◌, ◌≢◌, ℕ, zero, suc, ◌<◌, ◌≤◌, List, [], ◌∷◌, length, map, true, false, refl, ap, arith, Some, None, get_or, slice_get, ltb}
use Rattle.std.specs.List.{find}
use Rattle.std.specs.List.Sorted.{IsNonDecreasingBy, IsPartitionPoint, IsPartitionedBy}
use Rattle.std.proofs.lemmas.Bool.Decides.{nat_tests}
use Rattle.std.proofs.lemmas.List.Sorted.{IsPartitionedBy-ltb}
use Rattle.std.proofs.lemmas.Option.{get_or_from_slice_get, slice_get-get_or, slice_get_within}
use Rattle.coniks_directory.specs.History.{AreRising}

module _ {T : Type 0} (number : T → ℕ) where
  rising_from : (t : ℕ) (xs : List T) (j : ℕ) (d : T) → AreRising t (map number xs) → j < length xs → t < number (get_or xs j d)
  rising_from t [] j d up within = absurd (omega arith)
  rising_from t (x ∷ xs) zero d up within = up.0
  rising_from t (x ∷ xs) (suc j) d up within = let later = rising_from (number x) xs j d up.1 (omega arith) in let first = up.0 in omega arith

  pub rising-sorted : (t : ℕ) (xs : List T) → AreRising t (map number xs) → IsNonDecreasingBy number xs
  rising-sorted t [] up i j d le within = absurd (omega arith)
  rising-sorted t (x ∷ xs) up zero zero d le within = omega arith
  rising-sorted t (x ∷ xs) up zero (suc j) d le within = let later = rising_from (number x) xs j d up.1 (omega arith) in omega arith
  rising-sorted t (x ∷ xs) up (suc i) zero d le within = absurd (omega arith)
  rising-sorted t (x ∷ xs) up (suc i) (suc j) d le within = rising-sorted (number x) xs up.1 i j d (omega arith) (omega arith)

  -- the search for a number finds the element whose place is known
  pub find_at : (t n k : ℕ) (xs : List T) (x : T) → AreRising t (map number xs) → slice_get xs k ≡ Some x → number x ≡ n → find (λ y. number y == n) xs ≡ Some x
  find_at t n k [] x up at same = absurd (let never = at in cc)
  find_at t n zero (y ∷ ys) x up at same =
      let first : y ≡ x = cc in
      let on : (number y == n) ≡ true = (let is = ap number first in grind (arith, nat_tests)) in
      rw on (ap Some first)
  find_at t n (suc k) (y ∷ ys) x up at same =
      let here : get_or ys k x ≡ x = get_or_from_slice_get ys k x x at in
      let later : number y < number (get_or ys k x) = rising_from (number y) ys k x up.1 (slice_get_within ys k x at) in
      let off : (number y == n) ≡ false = (let is = ap number here in grind (arith, nat_tests)) in
      rw off (find_at (number y) n k ys x up.1 at same)

  find_none : (n : ℕ) (xs : List T) → ((k : ℕ) (d : T) → k < length xs → number (get_or xs k d) ≢ n) → find (λ x. number x == n) xs ≡ None
  find_none n [] apart = refl
  find_none n (x ∷ xs) apart =
      let first : number x ≢ n = apart 0 x (omega arith) in
      let off : (number x == n) ≡ false = grind (arith, nat_tests) in
      rw off (find_none n xs (λ k d within. apart (suc k) d (omega arith)))

  -- an element of a number is at the place at which the numbers that aren't less begin, or nowhere
  pub not_found : (t n place : ℕ) (xs : List T) → AreRising t (map number xs) → (IsPartitionedBy (λ x. ltb (number x) n) xs
      → IsPartitionPoint (λ x. ltb (number x) n ≡ true) (λ x. ltb (number x) n ≡ false) xs place)
      → ((x : T) → slice_get xs place ≡ Some x → number x ≢ n) → find (λ x. number x == n) xs ≡ None
  not_found t n place xs up partitioned apart = find_none n xs (λ k d within.
      let cut = partitioned (IsPartitionedBy-ltb number xs n (rising-sorted t xs up)) in
      let early : k < place → number (get_or xs k d) < n = λ below. let less = cut.0 k d (omega arith) below in grind (arith, nat_tests) in
      let late : place ≤ k → n < number (get_or xs k d) = λ from.
      let other = apart (get_or xs place d) (slice_get-get_or xs place d (omega arith)) in
      let least = cut.1 place d (omega arith) (omega arith) in
      let later = rising-sorted t xs up place k d from within in
      grind (arith, nat_tests) in
      grind arith)
