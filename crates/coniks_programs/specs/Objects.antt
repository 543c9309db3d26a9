-- Objects that are printed, by their members.
use Rattle.std.specs.Prelude.{List, [], ◌∷◌}
use Rattle.serde_json.specs.Data.{Data, Members, string, number, unsigned, no_members, member}
use Rattle.base64.specs.GeneralPurpose.{encode_of}
use Rattle.base64.specs.Engines.{standard}
use Rattle.coniks_chain.specs.Entries.{entry_bytes}
use Rattle.coniks_programs.specs.Paths.{path_of}
use Rattle.coniks_programs.specs.ProofTexts.{digits, proof_data}
use Rattle.coniks_programs.specs.declared.objects.Field.{Field}
use Rattle.coniks_programs.specs.declared.objects.Shown.{Shown}
use Rattle.coniks_programs.specs.declared.objects.Shown.TheVariants.{Digest, Digits, Entry, Base64, Text, Number, Proof}

-- the JSON value of a printed value
abbrev pub data_of : Shown → Data
data_of (Digest bytes) = digits bytes.now
data_of (Digits bytes) = digits bytes.now
data_of (Entry entry) = digits (entry_bytes entry.now)
data_of (Base64 bytes) = string (encode_of standard bytes.now)
data_of (Text text) = string text.now
data_of (Number n) = number (unsigned n)
data_of (Proof proof) = proof_data (path_of proof.now)

-- the members, in their order
abbrev pub members_of : List Field → Members
members_of [] = no_members
members_of (field ∷ fields) = member field.0.now (data_of field.1) (members_of fields)
