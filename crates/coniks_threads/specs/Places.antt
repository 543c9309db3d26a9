-- What workers did: numbered parts, and the list of all parts in order.
use Rattle.std.specs.Prelude.{◌≡◌, ℕ, suc, ◌<◌, ◌⊎◌, List, [], ◌∷◌, map, slice_index_or, Option, Some, None}
use Rattle.coniks_threads.specs.Draws.{times}
use Rattle.coniks_tree.specs.declared.part.Part.{Part}

-- the numbers of these parts
abbrev pub numbers : List (ℕ × Part) → List ℕ
numbers ps = map (λ (p : ℕ × Part). p.0) ps

module _ (part : ℕ → Part → Type 0) where
  -- each part is one for its number, which is below n
  abbrev pub AreParts : ℕ → List (ℕ × Part) → Type 0
  AreParts n [] = Unit {0}
  AreParts n (p ∷ ps) = (p.0 < n) × part p.0 p.1 × AreParts n ps

  -- the parts are, in order, for the numbers from k on
  abbrev pub AllFrom : ℕ → List Part → Type 0
  AllFrom k [] = Unit {0}
  AllFrom k (x ∷ xs) = part k x × AllFrom (suc k) xs

  -- a part with this number is in its place
  abbrev pub StandsAt : List (Option Part) → ℕ → Type 0
  StandsAt placed j = (x : Part) × (slice_index_or placed j None ≡ Some x) × part j x

  -- filled places stay filled, and parts with these numbers are in their places, except for the remaining numbers
  pub record Places (old new : List (Option Part)) (ns left : List ℕ) : Type 0 where
    pub retained : (j : ℕ) → StandsAt old j → StandsAt new j
    pub put : (j : ℕ) → 0 < times j ns → StandsAt new j ⊎ (0 < times j left)
