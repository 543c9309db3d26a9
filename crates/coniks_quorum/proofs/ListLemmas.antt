-- Elements of a part of a list, and of two lists in a row.
use Rattle.std.proofs.Common.{◌≡◌, ℕ, zero, suc, ◌+◌, ◌<◌, ◌≤◌, List, [], ◌∷◌, ◌++◌, length, Some, refl, sym, ap, subst, ◌∙◌, ⊎_elim, arith, get_or, take, drop}
use Rattle.std.specs.List.{slice_get}
use Rattle.std.proofs.lemmas.Option.{same_Some, slice_get-get_or}
use Rattle.std.proofs.lemmas.Bool.{cases_lt}

pub get-take : {X : Type 0} (xs : List X) (n k : ℕ) → k < n → slice_get (take n xs) k ≡ slice_get xs k
get-take xs zero k less = absurd (omega arith)
get-take [] (suc n) k less = refl
get-take (x ∷ xs) (suc n) zero less = refl
get-take (x ∷ xs) (suc n) (suc k) less = get-take xs n k (omega arith)

-- one of the first is one of all
pub of_take : {X : Type 0} (xs : List X) (n k : ℕ) (x : X) → slice_get (take n xs) k ≡ Some x → slice_get xs k ≡ Some x
of_take xs zero k x at = absurd (cc)
of_take [] (suc n) k x at = at
of_take (y ∷ xs) (suc n) zero x at = at
of_take (y ∷ xs) (suc n) (suc k) x at = of_take xs n k x at

-- and its place is among the first
pub take-within : {X : Type 0} (xs : List X) (n k : ℕ) (x : X) → slice_get (take n xs) k ≡ Some x → k < n
take-within xs zero k x at = absurd (cc)
take-within [] (suc n) k x at = absurd (cc)
take-within (y ∷ xs) (suc n) zero x at = omega arith
take-within (y ∷ xs) (suc n) (suc k) x at = let less = take-within xs n k x at in omega arith

pub of_drop : {X : Type 0} (xs : List X) (n k : ℕ) → slice_get (drop n xs) k ≡ slice_get xs (n + k)
of_drop xs zero k = let at : k ≡ zero + k = omega arith in ap (slice_get xs) at
of_drop [] (suc n) k = refl
of_drop (x ∷ xs) (suc n) k = let at : suc (n + k) ≡ suc n + k = omega arith in of_drop xs n k ∙ ap (slice_get (x ∷ xs)) at

pub get-append_left : {X : Type 0} (xs ys : List X) (k : ℕ) → k < length xs → slice_get (xs ++ ys) k ≡ slice_get xs k
get-append_left [] ys k less = absurd (omega arith)
get-append_left (x ∷ xs) ys zero less = refl
get-append_left (x ∷ xs) ys (suc k) less = get-append_left xs ys k (omega arith)

pub get-append_right : {X : Type 0} (xs ys : List X) (k : ℕ) → slice_get (xs ++ ys) (length xs + k) ≡ slice_get ys k
get-append_right {X} [] ys k = let at : length {A = X} [] + k ≡ k = omega arith in ap (slice_get ys) at
get-append_right (x ∷ xs) ys k = let at : length (x ∷ xs) + k ≡ suc (length xs + k) = omega arith in ap (slice_get (x ∷ (xs ++ ys))) at ∙ get-append_right xs ys k

pub only_one : {X : Type 0} (x y : X) (k : ℕ) → slice_get (x ∷ []) k ≡ Some y → x ≡ y
only_one x y zero at = same_Some x y at
only_one x y (suc k) at = absurd (cc)

-- what holds of each of the first elements with its place, and of the next one, holds of one more
pub holds-next : {X : Type 0} (P : ℕ → X → Type 0) (xs : List X) (n : ℕ) (d : X) → n < length xs → P n (get_or xs n d)
    → ((k : ℕ) (x : X) → k < n → slice_get xs k ≡ Some x → P k x) → (k : ℕ) (x : X) → k < n + 1 → slice_get xs k ≡ Some x → P k x
holds-next P xs n d within here before k x less at = ⊎_elim
    (λ (below : k < n). before k x below at)
    (λ (le : n ≤ k).
    let place : n ≡ k = omega arith in
    let same : get_or xs n d ≡ x = same_Some (get_or xs n d) x (sym (slice_get-get_or xs n d within) ∙ ap (slice_get xs) place ∙ at) in
    subst (λ (j : ℕ). P j x) place (subst (P n) same here))
    (cases_lt k n)
