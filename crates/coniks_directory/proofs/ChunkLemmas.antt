-- A list that several threads change, each a chunk of it.
use Rattle.std.proofs.Common.{◌≡◌, ◌<◌, ℕ, zero, suc, List, [], ◌∷◌, length, map, take, drop, get_or, arith, refl, sym, ap, ◌∙◌}
use Rattle.std.proofs.lemmas.List.{get_or-map}
use Rattle.coniks_directory.proofs.Words.{AreWithin, Record, registered_of}

-- names and keys of a chunk are within their limits
within_front : (xs : List Record) (n : ℕ) → AreWithin (map registered_of xs) → AreWithin (map registered_of (take n xs))
within_front xs zero within = tt
within_front [] (suc n) within = tt
within_front (x ∷ xs) (suc n) within = (within.0, within.1, within_front xs n within.2)

within_rest : (xs : List Record) (n : ℕ) → AreWithin (map registered_of xs) → AreWithin (map registered_of (drop n xs))
within_rest xs zero within = within
within_rest [] (suc n) within = tt
within_rest (x ∷ xs) (suc n) within = within_rest xs n within.2

pub within_chunk : (xs : List Record) (start size : ℕ) → AreWithin (map registered_of xs) → AreWithin (map registered_of (take size (drop start xs)))
within_chunk xs start size within = within_front (drop start xs) size (within_rest xs start within)

-- the element at a place is the image of the element there, by its chunk
pub image_at : {X : Type 0} (f : X → X) (chunk changed : List X) (offset : ℕ) (d old new : X) → changed ≡ map f chunk → offset < length chunk
    → get_or chunk offset d ≡ old → get_or changed offset d ≡ new → new ≡ f old
image_at f chunk changed offset d old new is within was becomes =
    sym becomes ∙ ap (λ xs. get_or xs offset d) is ∙ get_or-map f chunk offset d d within ∙ ap f was

-- a list whose elements are the images of another's
pub mapped_by : {X : Type 0} (f : X → X) (xs ys : List X) → length ys ≡ length xs → ((i : ℕ) (d : X) → i < length xs → get_or ys i d ≡ f (get_or xs i d)) → ys ≡ map f xs
mapped_by f [] [] long each = refl
mapped_by f [] (y ∷ ys) long each = absurd (omega arith)
mapped_by f (x ∷ xs) [] long each = absurd (omega arith)
mapped_by f (x ∷ xs) (y ∷ ys) long each =
    let rest = mapped_by f xs ys (omega arith) (λ i d lt. each (suc i) d (omega arith)) in
    λ i. each 0 y (omega arith) i ∷ rest i
