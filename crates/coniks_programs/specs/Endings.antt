-- How the command line of a program ends: its outcome, its status, and what it writes to standard error.
use Rattle.std.specs.Prelude.{◌≡◌, ◌≢◌, ◌⊎◌, ◌++◌, ℕ, List, [], codes, true, false, Option, Some, None, Result, Ok, Err}
use Rattle.std.specs.String.{string_bytes}
use Rattle.clap.specs.Words.{App, IsAmong, fault_of, takes}
use Rattle.clap.specs.declared.error.kind.ErrorKind.{ErrorKind}
use Rattle.coniks_programs.specs.declared.fault.RunFault.{RunFault}
use Rattle.coniks_programs.specs.declared.fault.RunFault.TheVariants.{Read, Write, OutOfMemory, NoBoard}
use Rattle.coniks_lines.specs.Known.{Sink}
use Rattle.coniks_lines.specs.Runs.{Streams}
use Rattle.coniks_programs.specs.Help.{IsCutOff, IsIdle, IsShown, NeverBegins, is_requested_for}
use Rattle.coniks_programs.specs.Telling.{Tells, TellsIf}
use Rattle.coniks_programs.specs.declared.cli.arguments.Unread.{Unread}
use Rattle.coniks_programs.specs.declared.cli.arguments.Unread.TheVariants as unread
use Rattle.coniks_programs.specs.declared.cli.ending.Ending.{Ending}
use Rattle.coniks_programs.specs.declared.cli.ending.Ending.TheVariants.{Done, Refused, Unusable}

-- the outcome of a command line: how it ended, or the error that ended it
abbrev pub Outcome : Type 0
Outcome = Result Ending RunFault

-- the status of an outcome
abbrev pub status_of : Outcome → ℕ
status_of (Ok (Done true)) = 0
status_of (Ok (Done false)) = 1
status_of (Ok (Refused text)) = 2
status_of (Ok (Unusable line)) = 2
status_of (Err fault) = 3

-- the status for arguments that cannot be read
abbrev pub unread_status : Unread → ℕ
unread_status unread.NotText = 2
unread_status unread.OutOfMemory = 3

-- the line for an error of the program of this name
abbrev pub line_of : List ℕ → RunFault → List ℕ
line_of name Read = name ++ codes ": read failed\n"
line_of name Write = name ++ codes ": write failed\n"
line_of name OutOfMemory = name ++ codes ": out of memory\n"
line_of name NoBoard = name ++ codes ": no board\n"

-- the text of an ending, if any
abbrev pub text_of : Ending → Option (List ℕ)
text_of (Done all) = None
text_of (Refused text) = Some (string_bytes text)
text_of (Unusable line) = Some line.now

-- the text of an outcome, if any; an error has the program's line for it
abbrev pub reported_of : (RunFault → List ℕ) → Outcome → Option (List ℕ)
reported_of fault_line (Ok ending) = text_of ending
reported_of fault_line (Err fault) = Some (fault_line fault)

-- the outcome for an error of `clap` of this kind: help or the version is shown, or the text of a mistake is returned
abbrev pub Explains : ErrorKind → Streams → Outcome → Type 0
Explains kind io (Ok (Done true)) = (is_requested_for kind ≡ true) × IsShown io
Explains kind io (Ok (Done false)) = ⊥
Explains kind io (Ok (Refused text)) = (is_requested_for kind ≡ false) × (string_bytes text ≢ []) × IsIdle io
Explains kind io (Ok (Unusable line)) = ⊥
Explains kind io (Err fault) = ((is_requested_for kind ≡ true) × IsCutOff io fault) ⊎ NeverBegins io fault

-- `clap` does not take the arguments, and explains one of the errors that it may give for them
pub record IsExplained (app : App) (words : List (List ℕ)) (io : Streams) (outcome : Outcome) : Type 0 where
  pub kind : ErrorKind
  pub among : IsAmong kind (fault_of app words)
  pub untaken : takes app words ≢ true
  pub explained : Explains kind io outcome

-- the outcome without a run: `clap` explains, or memory runs out first
abbrev pub EndsUnrun : App → List (List ℕ) → Streams → Outcome → Type 0
EndsUnrun app words io outcome = IsExplained app words io outcome ⊎ ((outcome ≡ Err OutOfMemory) × IsIdle io)

-- the program may end in this way: `clap` finds no mistake and the run ends so, or nothing runs
abbrev pub EndsFor : App → List (List ℕ) → (Outcome → Type 0) → Streams → Outcome → Type 0
EndsFor app words RunEnds io outcome = ((fault_of app words ≡ []) × RunEnds outcome) ⊎ EndsUnrun app words io outcome

-- the program ended in one of these ways, returned its status, and wrote its text to standard error, if it has one
pub record IsOutcome (Ends : Outcome → Type 0) (fault_line : RunFault → List ℕ) (old new : Sink) (status : ℕ) : Type 0 where
  pub outcome : Outcome
  pub ends : Ends outcome
  pub status_is : status ≡ status_of outcome
  pub reported : TellsIf (reported_of fault_line outcome) old new

-- the arguments could not be read: the program returned the status for why, and wrote its line for it to standard error
pub record IsUnread (unread_line : Unread → List ℕ) (old new : Sink) (status : ℕ) : Type 0 where
  pub why : Unread
  pub status_is : status ≡ unread_status why
  pub reported : Tells old (unread_line why) new

-- the program ended in one of these ways for some arguments, or could not read its arguments
abbrev pub IsWhole : (List (List ℕ) → Outcome → Type 0) → (RunFault → List ℕ) → (Unread → List ℕ) → Sink → Sink → ℕ → Type 0
IsWhole Ends fault_line unread_line old new status =
    ((words : List (List ℕ)) × IsOutcome (Ends words) fault_line old new status) ⊎ IsUnread unread_line old new status
