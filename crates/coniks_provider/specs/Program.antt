-- What the program does with its arguments, and what it writes to standard error.
use Rattle.std.specs.Prelude.{List, codes, Bool, true, false, Result, Ok, Err}
use Rattle.coniks_programs.specs.Endings.{EndsFor, Outcome, line_of}
use Rattle.coniks_programs.specs.declared.cli.arguments.Unread.{Unread}
use Rattle.coniks_programs.specs.declared.cli.arguments.Unread.TheVariants as unread
use Rattle.coniks_programs.specs.declared.cli.ending.Ending.TheVariants.{Done, Refused, Unusable}
use Rattle.coniks_programs.specs.Faults.{FailsOn}
use Rattle.coniks_programs.specs.declared.fault.RunFault.{RunFault}
use Rattle.coniks_programs.specs.declared.fault.RunFault.TheVariants.{OutOfMemory}
use Rattle.coniks_lines.specs.Runs.{EndsWell, Streams}
use Rattle.coniks_proof.specs.Octets.{Octets}
use Rattle.coniks_provider.specs.Replays.{IsReplay}
use Rattle.coniks_provider.specs.Turns.{ProviderState, nothing, provider_answer}
use Rattle.coniks_provider.specs.Command.{is_replay, provider}

-- the line for an error
abbrev pub fault_line : RunFault → Octets
fault_line = line_of (codes "provider")

-- the line for arguments that cannot be read
abbrev pub unread_line : Unread → Octets
unread_line unread.NotText = codes "provider: an argument is not UTF-8\n"
unread_line unread.OutOfMemory = fault_line OutOfMemory

-- a run ends in this way: each line of the source got its reply, or an error ended it after these replies
abbrev pub Provides : Streams → Result Bool RunFault → Type 0
Provides io (Ok all) = (state : ProviderState) × EndsWell provider_answer nothing io state all
Provides io (Err fault) = FailsOn provider_answer nothing io fault

-- a run, or a replay
abbrev pub RunsBy : Bool → Streams → Result Bool RunFault → Type 0
RunsBy true io result = IsReplay io result
RunsBy false io result = Provides io result

-- a run, or a replay, may end in this way
abbrev pub EndsBy : Bool → Streams → Outcome → Type 0
EndsBy replays io (Ok (Done all)) = RunsBy replays io (Ok all)
EndsBy replays io (Ok (Refused text)) = ⊥
EndsBy replays io (Ok (Unusable line)) = ⊥
EndsBy replays io (Err fault) = RunsBy replays io (Err fault)

-- the program may end in this way for these arguments
abbrev pub Ends : List Octets → Streams → Outcome → Type 0
Ends words io = EndsFor provider words (EndsBy (is_replay words) io) io
