-- Why a command line has no settings.
use Rattle.clap.specs.Words.{Kinds, IsAmong, kind_of}
use Rattle.coniks_programs.specs.declared.cli.refusing.WordsFault.{WordsFault}
use Rattle.coniks_programs.specs.declared.cli.refusing.WordsFault.TheVariants.{Clap, OutOfMemory}

-- memory ran out, or it is an error of `clap` of one of these kinds
abbrev pub IsRefusal : Kinds → WordsFault → Type 0
IsRefusal kinds (Clap error) = IsAmong (kind_of error) kinds
IsRefusal kinds OutOfMemory = Unit {0}
