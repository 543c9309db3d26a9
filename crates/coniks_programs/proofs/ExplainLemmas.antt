-- The errors of command lines.
use Rattle.std.proofs.Common.{◌≡◌, ℕ, List, Bool, true, false, ap, sym}
use Rattle.std.proofs.lemmas.Bool.{false≢true}
use Rattle.clap.specs.Words.{App, fault_of, kind_of, takes}
use Rattle.clap.specs.declared.error.Error.{Error}
use Rattle.coniks_lines.specs.Runs.{Streams}
use Rattle.coniks_programs.specs.Endings.{Explains, IsExplained, Outcome}
use Rattle.coniks_programs.specs.WordsFaults.{IsRefusal}
use Rattle.coniks_programs.specs.declared.cli.refusing.WordsFault.{WordsFault}
use Rattle.coniks_programs.specs.declared.cli.refusing.WordsFault.TheVariants.{Clap, OutOfMemory}

is_of_clap : WordsFault → Bool
is_of_clap (Clap error) = true
is_of_clap OutOfMemory = false

-- an error of `clap` isn't `OutOfMemory`
Clap-isnt-OutOfMemory : (error : Error) → Clap error ≡ OutOfMemory → ⊥
unfolding is_of_clap
Clap-isnt-OutOfMemory error same = false≢true (sym (ap is_of_clap same))

-- an error of `clap` for the arguments is explained
pub explains_for : (app : App) (words : List (List ℕ)) (io : Streams) (outcome : Outcome) (error : Error) → IsRefusal (fault_of app words) (Clap error)
    → (takes app words ≡ true → Clap error ≡ OutOfMemory) → Explains (kind_of error) io outcome → IsExplained app words io outcome
explains_for app words io outcome error among passes explained = record {
  kind = kind_of error;
  among = among;
  untaken = λ taken. Clap-isnt-OutOfMemory error (passes taken);
  explained = explained;
}
