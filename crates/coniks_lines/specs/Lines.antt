-- The lines of bytes: the parts that end at a newline, and the part after the last one.
use Rattle.std.specs.Prelude.{ℕ, List, [], ◌∷◌, ◌++◌, ◌==◌, if◌then◌else◌}

-- the lines that end at a newline; `buffered` is the beginning of the first one
abbrev pub whole_after : List ℕ → List ℕ → List (List ℕ)
whole_after buffered [] = []
whole_after buffered (b ∷ bytes) = if b == 10 then buffered ∷ whole_after [] bytes else whole_after (buffered ++ b ∷ []) bytes

-- the part after the last newline, with `buffered` before it if there is no newline
abbrev pub rest_after : List ℕ → List ℕ → List ℕ
rest_after buffered [] = buffered
rest_after buffered (b ∷ bytes) = if b == 10 then rest_after [] bytes else rest_after (buffered ++ b ∷ []) bytes

-- the lines that a newline ends
abbrev pub whole_lines : List ℕ → List (List ℕ)
whole_lines bytes = whole_after [] bytes

-- the part after the last newline is a line if it has at least one byte
abbrev pub last_line : List ℕ → List (List ℕ)
last_line [] = []
last_line (b ∷ bytes) = (b ∷ bytes) ∷ []

-- each line, a last one with no newline too
abbrev pub lines_of : List ℕ → List (List ℕ)
lines_of bytes = whole_after [] bytes ++ last_line (rest_after [] bytes)
