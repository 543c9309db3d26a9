-- The numbers below n, drawn each once.
use Rattle.std.specs.Prelude.{◌≡◌, ℕ, ◌+◌, ◌==◌, ltb, if◌then◌else◌, List, [], ◌∷◌}

-- how often x occurs in the list
abbrev pub times : ℕ → List ℕ → ℕ
times x [] = 0
times x (y ∷ ys) = (if y == x then 1 else 0) + times x ys

-- how often x occurs in all lists together
abbrev pub times_over : ℕ → List (List ℕ) → ℕ
times_over x [] = 0
times_over x (l ∷ ls) = times x l + times_over x ls

-- 1 for a number below n, and 0 for any other
abbrev pub once_below : ℕ → ℕ → ℕ
once_below x n = if ltb x n then 1 else 0

-- the lists contain the numbers below n, each once over all lists, and no others
abbrev pub Draws : List (List ℕ) → ℕ → Type 0
Draws lists n = (x : ℕ) → times_over x lists ≡ once_below x n
