-- The key that a client expects of a name, or that it expects none.
use Rattle.std.specs.Prelude.{codes, Option, Some, None, option_map, option_and_then, if◌then◌else◌, is_some}
use Rattle.coniks_proof.specs.Octets.{Octets}
use Rattle.serde_json.specs.Data.{Data}
use Rattle.serde_json.specs.Find.{get, as_null, as_str}
use Rattle.coniks_programs.specs.Members.{bytes_in}

-- the expected key in a text, if it is valid: no text expects no key, and the empty text expects the empty key
abbrev pub expectation_in : Option Octets → Option (Option Octets)
expectation_in None = Some None
expectation_in (Some text) = option_map Some (bytes_in text)

-- the expectation that a value is: `null` expects no key, a text in base64 its bytes
abbrev pub expectation_of : Data → Option (Option Octets)
expectation_of value = if is_some (as_null value) then Some None else option_map Some (option_and_then bytes_in (as_str value))

-- the expectation of a line: its member `key`
abbrev pub expected_in : Data → Option (Option Octets)
expected_in d = option_and_then expectation_of (get (codes "key") d)
