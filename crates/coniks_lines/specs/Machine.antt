-- What a machine replies to lines, one after another.
use Rattle.std.specs.Prelude.{ℕ, List, [], ◌∷◌, ◌++◌, ◌&&◌, Bool, true}
use Rattle.coniks_lines.specs.Lines.{lines_of}

-- the reply to a line: its text, whether the line was accepted, and the state after it
pub record Answer (S : Type 0) : Type 0 where
  pub text : List ℕ
  pub accepted : Bool
  pub state : S

-- the replies to lines, each with a newline
abbrev pub replies : {S : Type 0} → (S → List ℕ → Answer S) → S → List (List ℕ) → List ℕ
replies answer s [] = []
replies answer s (line ∷ lines) = (answer s line).text ++ 10 ∷ replies answer (answer s line).state lines

-- the state after lines
abbrev pub state_after : {S : Type 0} → (S → List ℕ → Answer S) → S → List (List ℕ) → S
state_after answer s [] = s
state_after answer s (line ∷ lines) = state_after answer (answer s line).state lines

-- whether each line was accepted
abbrev pub all_accepted : {S : Type 0} → (S → List ℕ → Answer S) → S → List (List ℕ) → Bool
all_accepted answer s [] = true
all_accepted answer s (line ∷ lines) = (answer s line).accepted && all_accepted answer (answer s line).state lines

-- what is written for an input
abbrev pub output : {S : Type 0} → (S → List ℕ → Answer S) → S → List ℕ → List ℕ
output answer s input = replies answer s (lines_of input)
