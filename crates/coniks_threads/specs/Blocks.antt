-- Blocks of five words, which follow one another on a board.
use Rattle.std.specs.Prelude.{◌≡◌, ℕ, List, [], ◌∷◌, ◌++◌, length}

-- all words, block after block
abbrev pub flat : List (List ℕ) → List ℕ
flat [] = []
flat (b ∷ bs) = b ++ flat bs

-- each block has five words
abbrev pub AllFive : List (List ℕ) → Type 0
AllFive [] = Unit {0}
AllFive (b ∷ bs) = (length b ≡ 5) × AllFive bs
