-- The endings of the program.
use Rattle.std.proofs.Common.{◌≡◌, inl, ℕ, List, [], Some, subst, sym}
use Rattle.clap.specs.Words.{fault_of, subcommand_of}
use Rattle.coniks_programs.specs.Endings.{Outcome}
use Rattle.coniks_lines.specs.Runs.{Streams}
use Rattle.coniks_tool.specs.Choice.{Choice, chosen}
use Rattle.coniks_tool.specs.Keydir.{keydir}
use Rattle.coniks_tool.specs.Program.{EndsBy, Ends}

-- the ending of the run that the arguments choose is one for the arguments
pub run-ends_for : (words : List (List ℕ)) (io : Streams) (choice : Choice) (outcome : Outcome) → fault_of keydir words ≡ []
    → chosen (subcommand_of keydir words) ≡ Some choice → EndsBy (Some choice) io outcome → Ends words io outcome
run-ends_for words io choice outcome none is ends = inl (none, subst (λ c. EndsBy c io outcome) (sym is) ends)
