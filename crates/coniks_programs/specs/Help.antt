-- What a program does with arguments that `clap` refuses, or that ask for help or the version.
use Rattle.std.specs.Prelude.{◌≡◌, ◌≢◌, ℕ, List, [], Bool, true, false}
use Rattle.clap.specs.declared.error.kind.ErrorKind.{ErrorKind}
use Rattle.clap.specs.declared.error.kind.ErrorKind.TheVariants.{DisplayHelp, DisplayVersion}
use Rattle.coniks_programs.specs.declared.fault.RunFault.{RunFault}
use Rattle.coniks_programs.specs.declared.fault.RunFault.TheVariants.{Write, OutOfMemory}
use Rattle.coniks_lines.specs.Runs.{Streams}
use Rattle.coniks_programs.specs.Telling.{TellsPart, TellsWhole}

-- an error of `clap` of this kind is a text that was requested
abbrev pub is_requested_for : ErrorKind → Bool
is_requested_for DisplayHelp = true
is_requested_for DisplayVersion = true
is_requested_for _ = false

-- nothing was read or written
abbrev pub IsIdle : Streams → Type 0
IsIdle io = (io.from' ≡ io.from) × (io.to' ≡ io.to)

-- help or the version was shown: a text that isn't empty was written whole, and flushed once
pub record IsShown (io : Streams) : Type 0 where
  pub text : List ℕ
  pub some : text ≢ []
  pub unread : io.from' ≡ io.from
  pub reported : TellsWhole io.to text io.to'

-- help or the version was not shown to its end
abbrev pub IsCutOff : Streams → RunFault → Type 0
IsCutOff io fault = (fault ≡ Write) × (io.from' ≡ io.from) × ((text : List ℕ) × TellsPart io.to text io.to')

-- memory ran out before anything was read or written
abbrev pub NeverBegins : Streams → RunFault → Type 0
NeverBegins io fault = (fault ≡ OutOfMemory) × IsIdle io
