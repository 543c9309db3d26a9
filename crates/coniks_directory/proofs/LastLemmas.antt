-- The last element of a list, and mapped lists.
use Rattle.std.proofs.Common.{◌≡◌, ℕ, zero, suc, ◌+◌, ◌-◌, List, [], ◌∷◌, ◌++◌, length, map, take, refl, sym, ap, ◌∙◌, arith, Some, None, slice_get}
use Rattle.coniks_directory.proofs.Words.{get_or_from_slice_get, slice_get-get_or, slice_get_within, take_all, take_more}

-- a list up to a place, with the element there
pub take_next : {T : Type 0} (xs : List T) (i : ℕ) (x : T) → slice_get xs i ≡ Some x → take (i + 1) xs ≡ take i xs ++ x ∷ []
take_next xs i x at = take_more xs i x (slice_get_within xs i x at) ∙ ap (λ y. take i xs ++ y ∷ []) (get_or_from_slice_get xs i x x at)

-- what depends only on the last element is what it is there
module _ {T A : Type 0} (F : List T → A) (g : T → A) (one : (x : T) → F (x ∷ []) ≡ g x) (more : (x y : T) (xs : List T) → F (x ∷ y ∷ xs) ≡ F (y ∷ xs)) where
  pub at_end : (xs : List T) (x : T) → F (xs ++ x ∷ []) ≡ g x
  at_end [] x = one x
  at_end (y ∷ []) x = more y x [] ∙ one x
  at_end (y ∷ z ∷ xs) x = more y z (xs ++ x ∷ []) ∙ at_end (z ∷ xs) x

  pub last_found : (xs : List T) (x : T) → slice_get xs (length xs - 1) ≡ Some x → F xs ≡ g x
  last_found xs x at =
      let within = slice_get_within xs (length xs - 1) x at in
      ap F (sym (take_all (length xs - 1 + 1) xs (omega arith)) ∙ take_next xs (length xs - 1) x at) ∙ at_end (take (length xs - 1) xs) x

pub none_last : {T : Type 0} (xs : List T) → slice_get xs (length xs - 1) ≡ None → xs ≡ []
none_last [] none = refl
none_last (x ∷ xs) none = absurd (let there = slice_get-get_or (x ∷ xs) (length (x ∷ xs) - 1) x (omega arith) in let never = sym there ∙ none in cc)

-- an element of a mapped list is the mapped element of that place
pub get-mapped : {S T : Type 0} (f : S → T) (xs : List S) (k : ℕ) (y : T) → slice_get (map f xs) k ≡ Some y → (x : S) × (slice_get xs k ≡ Some x) × (f x ≡ y)
get-mapped f [] k y at = absurd (let never = at in cc)
get-mapped f (x ∷ xs) zero y at = (x, refl, (let same : f x ≡ y = cc in same))
get-mapped f (x ∷ xs) (suc k) y at = get-mapped f xs k y at
