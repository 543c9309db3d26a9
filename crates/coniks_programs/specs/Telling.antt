-- Texts that are written, whole or as far as the sink allows.
use Rattle.std.specs.Prelude.{◌≡◌, ◌⊎◌, ℕ, List, Option, Some, None}
use Rattle.coniks_lines.specs.Known.{Sink, Appends, next_count}
use Rattle.coniks_lines.specs.Runs.{CannotWrite, IsBeginning, WritesOn}

-- a text was written, and one flush followed
pub record TellsWhole (old : Sink) (text : List ℕ) (new : Sink) : Type 0 where
  pub written : Appends old text new
  pub flushed : new.flushes ≡ next_count old.flushes
  pub writes_on : WritesOn old new

-- a beginning of a text was written, and then a write or the flush did not go on
pub record TellsPart (old : Sink) (text : List ℕ) (new : Sink) : Type 0 where
  pub part : List ℕ
  pub begins : IsBeginning part text
  pub written : Appends old part new
  pub because : CannotWrite old new

-- a text was written as far as the sink allowed
abbrev pub Tells : Sink → List ℕ → Sink → Type 0
Tells old text new = TellsWhole old text new ⊎ TellsPart old text new

-- the text was written as far as the sink allowed; without a text, nothing was
abbrev pub TellsIf : Option (List ℕ) → Sink → Sink → Type 0
TellsIf None old new = new ≡ old
TellsIf (Some text) old new = Tells old text new
