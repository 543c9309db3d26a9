-- Texts that are written in part.
use Rattle.std.proofs.Common.{◌≡◌, ℕ, List, take, drop, ◌∙◌}
use Rattle.std.proofs.lemmas.List.{take-append-drop}
use Rattle.coniks_lines.specs.Known.{Sink, Appends}
use Rattle.coniks_lines.specs.Runs.{CannotWrite}
use Rattle.coniks_programs.specs.Telling.{TellsPart}

-- a write stops within the text
pub stops_in_text : (old new : Sink) (text bytes : List ℕ) (n : ℕ) → bytes ≡ text → Appends old (take n bytes) new → CannotWrite old new → TellsPart old text new
stops_in_text old new text bytes n same written why =
    record { part = take n bytes; begins = record { more = drop n bytes; whole = take-append-drop n bytes ∙ same }; written = written; because = why }
