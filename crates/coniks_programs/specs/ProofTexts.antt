-- How a path is printed.
use Rattle.std.specs.Prelude.{codes, map}
use Rattle.std.specs.Str.Lossy.{utf8_lossy}
use Rattle.coniks_proof.specs.Octets.{Octets}
use Rattle.serde_json.specs.Data.{Data, string, array, object, member, no_members}
use Rattle.serde_json.specs.View.{items_of}
use Rattle.hex.specs.Hex.{encode_lower}
use Rattle.base64.specs.GeneralPurpose.{encode_of}
use Rattle.base64.specs.Engines.{standard}
use Rattle.coniks_programs.specs.Paths.{PathEnd, no_entry, other_entry, its_entry, Path}

-- bytes in lower case hexadecimal digits
abbrev pub digits : Octets → Data
digits bytes = string (encode_lower bytes)

-- {"kind":"empty"}, {"commitment":DIGITS,"index":DIGITS,"kind":"other"} or {"key":BASE64,"kind":"here","name":TEXT,"opening":DIGITS};
-- a name that is UTF-8, as each that was read from a line, is printed as it is
abbrev pub end_data : PathEnd → Data
end_data no_entry = object (member (codes "kind") (string (codes "empty")) no_members)
end_data (other_entry index commitment) =
    object
    (member (codes "commitment") (digits commitment)
    (member (codes "index") (digits index)
    (member (codes "kind") (string (codes "other")) no_members)))
end_data (its_entry name key opening) =
    object
    (member (codes "key") (string (encode_of standard key))
    (member (codes "kind") (string (codes "here"))
    (member (codes "name") (string (utf8_lossy name))
    (member (codes "opening") (digits opening) no_members))))

-- {"end":END,"siblings":[DIGITS,..]}
abbrev pub proof_data : Path → Data
proof_data path =
    object
    (member (codes "end") (end_data path.end)
    (member (codes "siblings") (array (items_of (map digits path.siblings))) no_members))
