-- What the program does with its arguments, and what it writes to standard error.
use Rattle.std.specs.Prelude.{◌≡◌, ◌⊎◌, List, Bool, true, codes, Option, Some, None, Ok, Err}
use Rattle.coniks_proof.specs.Octets.{Octets}
use Rattle.clap.specs.Words.{subcommand_of}
use Rattle.coniks_programs.specs.Endings.{EndsFor, Outcome, line_of}
use Rattle.coniks_programs.specs.Help.{IsIdle, NeverBegins}
use Rattle.coniks_programs.specs.declared.cli.arguments.Unread.{Unread}
use Rattle.coniks_programs.specs.declared.cli.arguments.Unread.TheVariants as unread
use Rattle.coniks_programs.specs.declared.cli.ending.Ending.TheVariants.{Done, Refused, Unusable}
use Rattle.coniks_programs.specs.Faults.{FailsOn, FailsWithBoard}
use Rattle.coniks_lines.specs.Runs.{EndsWell, Streams}
use Rattle.coniks_programs.specs.declared.fault.RunFault.{RunFault}
use Rattle.coniks_programs.specs.declared.fault.RunFault.TheVariants.{OutOfMemory}
use Rattle.coniks_tool.specs.Audit.{AuditState, audit_answer, none_audited}
use Rattle.coniks_tool.specs.Check.{Stateless, check_answer, stateless}
use Rattle.coniks_tool.specs.Choice.{Choice, run, check, audit, monitor, chosen, key_in, lacks_key, lacks_expectation}
use Rattle.coniks_tool.specs.Expectations.{expectation_in}
use Rattle.coniks_tool.specs.Keydir.{keydir}
use Rattle.coniks_tool.specs.Monitor.{MonitorState, monitor_answer, none_watched}
use Rattle.coniks_tool.specs.Script.{ScriptState, script_answer}

-- the line for an error
abbrev pub fault_line : RunFault → Octets
fault_line = line_of (codes "keydir")

-- the line for arguments that cannot be read
abbrev pub unread_line : Unread → Octets
unread_line unread.NotText = codes "keydir: a word is not UTF-8\n"
unread_line unread.OutOfMemory = fault_line OutOfMemory

-- the line for a key that is not valid
abbrev pub bad_key_line : Octets
bad_key_line = codes "keydir: bad key\n"

-- the line for an expected key that is not base64
abbrev pub bad_expectation_line : Octets
bad_expectation_line = codes "keydir: bad expectation\n"

-- `audit` ran under the key that this text is
pub record Audits (text : Octets) (io : Streams) (all : Bool) : Type 0 where
  pub key : Octets
  pub key_is : key_in text ≡ Some key
  pub state : AuditState
  pub ends : EndsWell audit_answer (none_audited key) io state all

-- `monitor` ran for this name, under the key and with the expectation that these texts are
pub record Monitors (text name : Octets) (expect : Option Octets) (io : Streams) (all : Bool) : Type 0 where
  pub key : Octets
  pub key_is : key_in text ≡ Some key
  pub expected : Option Octets
  pub expected_is : expectation_in expect ≡ Some expected
  pub state : MonitorState
  pub ends : EndsWell monitor_answer (none_watched key name expected) io state all

-- the run that was chosen came to its source's end, and this says whether each line was accepted
abbrev pub Runs : Option Choice → Streams → Bool → Type 0
Runs None io all = ⊥
Runs (Some (run workers depth)) io all = (state : ScriptState) × EndsWell script_answer None io state all
Runs (Some check) io all = (state : Stateless) × EndsWell check_answer stateless io state all
Runs (Some (audit text)) io all = Audits text io all
Runs (Some (monitor text name expect)) io all = Monitors text name expect io all

-- an error ended the chosen run, after these replies
abbrev pub BreaksOff : Option Choice → Streams → RunFault → Type 0
BreaksOff None io fault = ⊥
BreaksOff (Some (run workers depth)) io fault = FailsWithBoard script_answer None io fault
BreaksOff (Some check) io fault = FailsOn check_answer stateless io fault
BreaksOff (Some (audit text)) io fault =
    (key : Octets) × (key_in text ≡ Some key) × FailsOn audit_answer (none_audited key) io fault
BreaksOff (Some (monitor text name expect)) io fault =
    (key : Octets) × (expected : Option Octets) × (key_in text ≡ Some key) × (expectation_in expect ≡ Some expected)
    × FailsOn monitor_answer (none_watched key name expected) io fault

-- the line for what the arguments give this choice and a run cannot use: the key, or the expected key
abbrev pub IsUnusable : Option Choice → Octets → Type 0
IsUnusable choice line =
    ((lacks_key choice ≡ true) × (line ≡ bad_key_line)) ⊎ ((lacks_expectation choice ≡ true) × (line ≡ bad_expectation_line))

-- a choice may end in this way
abbrev pub EndsBy : Option Choice → Streams → Outcome → Type 0
EndsBy choice io (Ok (Done all)) = Runs choice io all
EndsBy choice io (Ok (Refused text)) = ⊥
EndsBy choice io (Ok (Unusable line)) = IsUnusable choice line.now × IsIdle io
EndsBy choice io (Err fault) = BreaksOff choice io fault ⊎ NeverBegins io fault

-- the program may end in this way for these arguments
abbrev pub Ends : List Octets → Streams → Outcome → Type 0
Ends words io = EndsFor keydir words (EndsBy (chosen (subcommand_of keydir words)) io) io
