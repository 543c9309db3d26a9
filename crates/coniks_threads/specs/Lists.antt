-- Lists that go on, and their last element.
use Rattle.std.specs.Prelude.{◌≡◌, List, [], ◌∷◌, ◌++◌, Option, Some, None}

-- the later list begins with the earlier one
abbrev pub Begins : {A : Type 0} → List A → List A → Type 0
Begins {A} early late = (rest : List A) × (late ≡ early ++ rest)

-- the last element, and None of an empty list
abbrev pub last_of : {A : Type 0} → List A → Option A
last_of [] = None
last_of (x ∷ []) = Some x
last_of (x ∷ y ∷ xs) = last_of (y ∷ xs)
