-- The first element that passes a test.
use Rattle.std.proofs.Common.{◌≡◌, ◌<◌, ◌+◌, ℕ, zero, suc, List, [], ◌∷◌, length, Bool, true, false, Some, None, refl, sym, ap, subst, ◌∙◌, arith}
use Rattle.std.specs.Prelude.{cond, find, is_some, slice_get}
use Rattle.std.proofs.lemmas.Option.{same_Some}
use Rattle.std.proofs.lemmas.Bool.{false≢true}

-- no element before this place passes
abbrev pub NoneBefore : {X : Type 0} → (X → Bool) → List X → ℕ → Type 0
NoneBefore {X} test xs place = (k : ℕ) (x : X) → k < place → slice_get xs k ≡ Some x → test x ≡ false

-- this element passes, and none before its place does
pub record IsFirstAmong {X : Type 0} (test : X → Bool) (xs : List X) (x : X) : Type 0 where
  pub place : ℕ
  pub at : slice_get xs place ≡ Some x
  pub passes : test x ≡ true
  pub earlier : NoneBefore test xs place

module _ {X : Type 0} (test : X → Bool) where
  one_more : (x : X) (xs : List X) (place : ℕ) → test x ≡ false → NoneBefore test xs place → NoneBefore test (x ∷ xs) (suc place)
  one_more x xs place off rest zero y less at = subst (λ z. test z ≡ false) (same_Some x y at) off
  one_more x xs place off rest (suc k) y less at = rest k y (omega arith) at

  found_by : (x : X) (xs : List X) (y : X) (b : Bool) → test x ≡ b → (find test xs ≡ Some y → IsFirstAmong test xs y) → cond b (Some x) (find test xs) ≡ Some y → IsFirstAmong test (x ∷ xs) y
  found_by x xs y true on rest found = record { place = 0; at = found; passes = subst (λ z. test z ≡ true) (same_Some x y found) on; earlier = λ k z less at. absurd (omega arith) }
  found_by x xs y false off rest found =
      let r = rest found in
      record { place = suc r.place; at = r.at; passes = r.passes; earlier = one_more x xs r.place off r.earlier }

  -- the element that is found is the first
  pub found-first : (xs : List X) (x : X) → find test xs ≡ Some x → IsFirstAmong test xs x
  found-first [] x found = absurd (false≢true (ap is_some found))
  found-first (y ∷ xs) x found = found_by y xs x (test y) refl (found-first xs x) found

  pub first-found : (xs : List X) (place : ℕ) (x : X) → slice_get xs place ≡ Some x → test x ≡ true → NoneBefore test xs place → find test xs ≡ Some x
  first-found [] place x at on earlier = absurd (false≢true (ap is_some at))
  first-found (y ∷ xs) zero x at on earlier =
      let here : test y ≡ true = subst (λ z. test z ≡ true) (sym (same_Some y x at)) on in
      rw here at
  first-found (y ∷ xs) (suc place) x at on earlier = rw (earlier zero y (omega arith) refl) (first-found xs place x at on (λ k z less there. earlier (suc k) z (omega arith) there))

  none_by : (x : X) (xs : List X) (b : Bool) → test x ≡ b → (find test xs ≡ None → NoneBefore test xs (length xs)) → cond b (Some x) (find test xs) ≡ None → NoneBefore test (x ∷ xs) (suc (length xs))
  none_by x xs true on rest none = absurd (false≢true (sym (ap is_some none)))
  none_by x xs false off rest none = one_more x xs (length xs) off (rest none)

  -- if none is found, none passes
  pub found-none : (xs : List X) → find test xs ≡ None → NoneBefore test xs (length xs)
  found-none [] none = λ k x less at. absurd (false≢true (ap is_some at))
  found-none (x ∷ xs) none = none_by x xs (test x) refl (found-none xs) none

  pub none-found : (xs : List X) → NoneBefore test xs (length xs) → find test xs ≡ None
  none-found [] none = refl
  none-found (x ∷ xs) none = rw (none zero x (omega arith) refl) (none-found xs (λ k z less there. none (suc k) z (omega arith) there))

-- the elements have consecutive numbers, from this one on
abbrev pub AreNumbered : {X : Type 0} → (X → ℕ) → ℕ → List X → Type 0
AreNumbered number n [] = Unit {0}
AreNumbered number n (x ∷ xs) = (number x ≡ n) × AreNumbered number (suc n) xs

pub number-at : {X : Type 0} → (number : X → ℕ) (xs : List X) (n place : ℕ) (x : X) → AreNumbered number n xs → slice_get xs place ≡ Some x → number x ≡ n + place
number-at number [] n place x are at = absurd (false≢true (ap is_some at))
number-at number (y ∷ xs) n zero x are at = let is : number x ≡ n = ap number (sym (same_Some y x at)) ∙ are.0 in omega arith
number-at number (y ∷ xs) n (suc place) x are at = let is = number-at number xs (suc n) place x are.1 at in omega arith
