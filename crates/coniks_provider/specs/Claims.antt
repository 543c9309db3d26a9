-- What the members that a log adds to a line say of what the line does.
use Rattle.std.specs.Prelude.{◌==◌, ℕ, codes, Bool, true, false, Option, Some, None, is_some, if◌then◌else◌}
use Rattle.std.specs.Str.{bytes_eq}
use Rattle.serde_json.specs.Data.{Data}
use Rattle.serde_json.specs.Find.{get}
use Rattle.coniks_proof.specs.Octets.{Octets}
use Rattle.coniks_programs.specs.Members.{digits_in, given, if_there, number_in}

-- bytes that a line may name: they are missing, there is something else in their place, or they are these
abbrev pub Claim : Type 0
Claim = Option (Option Octets)

-- the n bytes that a member names, in 2n hexadecimal digits of either case
abbrev pub claim_in : ℕ → Octets → Data → Claim
claim_in n name d = if_there name d (digits_in n name d)

-- the line names no other bytes
abbrev pub agrees : Claim → Octets → Bool
agrees None bytes = false
agrees (Some None) bytes = true
agrees (Some (Some stated)) bytes = bytes_eq stated bytes

-- the line names these bytes, or none if there are none
abbrev pub is_named : Claim → Option Octets → Bool
is_named (Some None) None = true
is_named (Some (Some stated)) (Some bytes) = bytes_eq stated bytes
is_named _ _ = false

-- whether the rules of a log hold: the member `log` is 2, or it is missing; another one is nothing
abbrev pub log_in : Data → Option Bool
log_in d =
    if is_some (get (codes "log") d)
    then given (number_in (codes "log") d) (λ format. if format == 2 then Some true else None)
    else Some false
