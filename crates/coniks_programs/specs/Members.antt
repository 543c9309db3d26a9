-- What a line and its members say: JSON is RFC 8259, hexadecimal digits and base64 are RFC 4648.
use Rattle.std.specs.Prelude.{ℕ, Option, Some, None, option_and_then, option_map, is_some, if◌then◌else◌}
use Rattle.std.specs.Result.{result_ok}
use Rattle.std.specs.Str.{is_utf8}
use Rattle.coniks_proof.specs.Octets.{Octets}
use Rattle.serde_json.specs.Data.{Data, Items}
use Rattle.serde_json.specs.Read.{read}
use Rattle.serde_json.specs.Find.{get, as_str, as_number, as_u64, as_object, as_array}
use Rattle.hex.specs.Hex.{decode_sized}
use Rattle.base64.specs.GeneralPurpose.{decode_of}
use Rattle.base64.specs.Engines.{standard}

-- the next step if there is a value, and nothing if there is none
abbrev pub given : {A B : Type 0} → Option A → (A → Option B) → Option B
given None next = None
given (Some a) next = next a

-- a value, if it is an object
abbrev pub if_object : Data → Option Data
if_object value = if is_some (as_object value) then Some value else None

-- the object that a line is: the line is UTF-8, and a JSON text (RFC 8259) whose value is an object
abbrev pub object_in : Octets → Option Data
object_in line = if is_utf8 line then option_and_then if_object (read line) else None

-- the text of a member
abbrev pub text_in : Octets → Data → Option Octets
text_in name within = option_and_then as_str (get name within)

-- the number of a member, written as a whole number from 0 to 2^64 - 1
abbrev pub number_in : Octets → Data → Option ℕ
number_in name within = option_and_then as_u64 (option_and_then as_number (get name within))

-- a value of an optional member: none if it is absent, and nothing if it is there and not valid
abbrev pub if_there : {A : Type 0} → Octets → Data → Option A → Option (Option A)
if_there name within value = if is_some (get name within) then option_map Some value else Some None

-- the elements of a member that is an array
abbrev pub array_in : Octets → Data → Option Items
array_in name within = option_and_then as_array (get name within)

-- the n bytes of a member, in 2n hexadecimal digits of either case (RFC 4648, section 8)
abbrev pub digits_in : ℕ → Octets → Data → Option Octets
digits_in n name within = option_and_then (λ text. result_ok (decode_sized text n)) (text_in name within)

-- the bytes of a text in base64 of the standard alphabet with its padding (RFC 4648, section 4)
abbrev pub bytes_in : Octets → Option Octets
bytes_in text = result_ok (decode_of standard text)

-- the bytes of a member that is such a text
abbrev pub base64_in : Octets → Data → Option Octets
base64_in name within = option_and_then bytes_in (text_in name within)
