-- The line that a log stores for a line.
use Rattle.std.specs.Prelude.{◌==◌, ◌-◌, [], ◌∷◌, ◌++◌, codes, length, take, Option, Some, None, is_some, if◌then◌else◌}
use Rattle.serde_json.specs.Data.{Data, object, member, no_members}
use Rattle.serde_json.specs.Find.{get}
use Rattle.serde_json.specs.Written.{compact_text}
use Rattle.coniks_proof.specs.Octets.{Octets}
use Rattle.coniks_chain.specs.Entries.{body_bytes}
use Rattle.coniks_programs.specs.ProofTexts.{digits}
use Rattle.coniks_provider.specs.Answers.{ProviderOutcome, installed, prepared}

-- a text without its last byte
abbrev pub but_last : Octets → Octets
but_last text = take (length text - 1) text

-- what follows the first `{` of a line
abbrev pub after_brace : Octets → Octets
after_brace [] = []
after_brace (byte ∷ bytes) = if byte == 123 then bytes else after_brace bytes

-- a line with a member more, directly after its first `{`
abbrev pub with_first : Octets → Octets → Octets → Octets
with_first name bytes line = but_last (compact_text (object (member name (digits bytes) no_members))) ++ 44 ∷ after_brace line

-- a line that has a member, or gets it with the digits of these bytes; d is the object of the line
abbrev pub naming : Octets → Octets → Data → Octets → Octets
naming name bytes d line = if is_some (get name d) then line else with_first name bytes line

-- the line that is stored: as it was sent, with the body or the link of what came of it
abbrev pub stored_line : ProviderOutcome → Data → Octets → Option Octets
stored_line (prepared body nodes) d line = Some (naming (codes "body") (body_bytes body) d line)
stored_line (installed entry link) d line = Some (naming (codes "link") link d line)
stored_line _ d line = None

-- an object that is printed, with a member more at its end, whose value is printed as it is; `lead` is its name with comma and colon
abbrev pub with_last : Octets → Octets → Octets → Octets
with_last text lead value = but_last text ++ (lead ++ (value ++ 125 ∷ []))

-- a reply with the line to store as its last member
abbrev pub with_store : Octets → Option Octets → Octets
with_store text None = text
with_store text (Some stored) = with_last text (codes ",\"store\":") stored
