-- The outcome of a line, and the reply to it.
use Rattle.std.specs.Prelude.{◌≡◌, Bool}
use Rattle.serde_json.specs.Data.{Data}
use Rattle.serde_json.specs.Written.{compact_text}
use Rattle.coniks_lines.specs.Machine.{Answer}

-- what comes of a line, and the state after it
pub record Turn (Outcome State : Type 0) : Type 0 where
  pub outcome : Outcome
  pub state : State

-- the outcome and the state are those of the turn
abbrev pub Takes : {Outcome State : Type 0} → Turn Outcome State → Outcome → State → Type 0
Takes turn outcome state = (outcome ≡ turn.outcome) × (state ≡ turn.state)

-- the line is refused with this, and the state stays
abbrev pub refused : {Outcome State : Type 0} → State → Outcome → Turn Outcome State
refused s outcome = record { outcome = outcome; state = s }

-- the reply to a line is the object of its outcome, as JSON (RFC 8259) without white space
abbrev pub answer_by : {Outcome State : Type 0} → (Outcome → Data) → (Outcome → Bool) → Turn Outcome State → Answer State
answer_by object accepted t = record { text = compact_text (object t.outcome); accepted = accepted t.outcome; state = t.state }
