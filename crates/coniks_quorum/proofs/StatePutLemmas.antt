-- Bytes that are written one part after another.
use Rattle.std.proofs.Common.{◌≡◌, ◌<◌, ◌≤◌, ℕ, ◌+◌, List, [], ◌∷◌, ◌++◌, length, take, drop, map, get_or, Option, Some, None, refl, sym, ap, subst, ◌∙◌, arith, append_assoc}
use Rattle.std.specs.List.{flat_map}
use Rattle.std.proofs.lemmas.List.{length-append, take-append-drop, take_all, take_more}
use Rattle.coniks_quorum.specs.StateWriting.{HasPut, Puts}

-- a part after another
pub puts_then : (old mid new : List ℕ) (at m : ℕ) (a b : List ℕ) (r : Option ℕ) → HasPut old at a mid m → length mid ≡ length old → Puts mid m b new r → Puts old at (a ++ b) new r
puts_then old mid new at m a b None first size second = let one = first.size in omega (arith, length-append a b)
puts_then old mid new at m a b (Some end) first size second = let one = first.size in let two = second.size in let within = second.within in record {
  size = omega (arith, length-append a b);
  within = omega arith;
  bytes = second.bytes ∙ ap (λ ys. ys ++ b) first.bytes ∙ append_assoc (take at old) a b;
}

module _ {X : Type 0} (f : X → List ℕ) where
  flat-append : (xs ys : List X) → flat_map f (xs ++ ys) ≡ flat_map f xs ++ flat_map f ys
  flat-append [] ys = refl
  flat-append (x ∷ xs) ys = ap (λ zs. f x ++ zs) (flat-append xs ys) ∙ sym (append_assoc (f x) (flat_map f xs) (flat_map f ys))

  flat-more : (xs : List X) (i : ℕ) (d : X) → i < length xs → flat_map f (take (i + 1) xs) ≡ flat_map f (take i xs) ++ f (get_or xs i d)
  flat-more xs i d within =
      ap (flat_map f) (take_more xs i d within) ∙ flat-append (take i xs) (get_or xs i d ∷ [])
      ∙ ap (λ ys. flat_map f (take i xs) ++ ys) (append-none (f (get_or xs i d)))
    where
      append-none : (ys : List ℕ) → ys ++ [] ≡ ys
      append-none [] = refl
      append-none (y ∷ ys) = ap (λ zs. y ∷ zs) (append-none ys)

  -- the length of one element more
  pub flat-size : (xs : List X) (i : ℕ) (d : X) → i < length xs → length (flat_map f (take (i + 1) xs)) ≡ length (flat_map f (take i xs)) + length (f (get_or xs i d))
  flat-size xs i d within = ap length (flat-more xs i d within) ∙ length-append (flat_map f (take i xs)) (f (get_or xs i d))

  -- the first ones are not longer than all
  pub flat-least : (xs : List X) (i : ℕ) → length (flat_map f (take i xs)) ≤ length (flat_map f xs)
  flat-least xs i =
      let whole : length (flat_map f xs) ≡ length (flat_map f (take i xs) ++ flat_map f (drop i xs))
      = ap (λ ys. length (flat_map f ys)) (sym (take-append-drop i xs)) ∙ ap length (flat-append (take i xs) (drop i xs)) in
      omega (arith, length-append (flat_map f (take i xs)) (flat_map f (drop i xs)))

  -- one element more
  pub put_more : (old mid new : List ℕ) (at m : ℕ) (xs : List X) (i : ℕ) (d : X) (end : ℕ) → i < length xs → length mid ≡ length old
      → HasPut old at (flat_map f (take i xs)) mid m → HasPut mid m (f (get_or xs i d)) new end → HasPut old at (flat_map f (take (i + 1) xs)) new end
  put_more old mid new at m xs i d end within size before one =
      subst (λ ys. HasPut old at ys new end) (sym (flat-more xs i d within)) (puts_then old mid new at m (flat_map f (take i xs)) (f (get_or xs i d)) (Some end) before size one)

  -- one for which there is no room
  pub put-none : (old mid : List ℕ) (at m : ℕ) (xs : List X) (i : ℕ) (d : X) → i < length xs → length mid ≡ length old
      → HasPut old at (flat_map f (take i xs)) mid m → length mid < m + length (f (get_or xs i d)) → length old < at + length (flat_map f xs)
  put-none old mid at m xs i d within size before none =
      let more = flat-size xs i d within in let least = flat-least xs (i + 1) in let one = before.size in omega arith

  -- all of them
  pub flat_all : (xs : List X) (i : ℕ) → length xs ≤ i → flat_map f (take i xs) ≡ flat_map f xs
  flat_all xs i all = ap (flat_map f) (take_all i xs all)

  pub put_all : (old new : List ℕ) (at : ℕ) (xs : List X) (i end : ℕ) → length xs ≤ i → HasPut old at (flat_map f (take i xs)) new end → HasPut old at (flat_map f xs) new end
  put_all old new at xs i end all before = subst (λ ys. HasPut old at (flat_map f ys) new end) (take_all i xs all) before

-- the parts of what elements are mapped to
pub flat_map-map : {X Y : Type 0} (f : Y → List ℕ) (g : X → Y) (xs : List X) → flat_map f (map g xs) ≡ flat_map (λ x. f (g x)) xs
flat_map-map f g [] = refl
flat_map-map f g (x ∷ xs) = ap (λ ys. f (g x) ++ ys) (flat_map-map f g xs)
