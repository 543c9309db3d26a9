-- Entries in the lines that hold them.
use Rattle.std.specs.Prelude.{codes, Option, option_map, option_and_then}
use Rattle.coniks_proof.specs.Octets.{Octets}
use Rattle.serde_json.specs.Data.{Data}
use Rattle.coniks_chain.specs.declared.entry.Entry.{Entry}
use Rattle.coniks_chain.specs.Entries.{entry_from, entry_length}
use Rattle.coniks_programs.specs.Members.{object_in, digits_in}

-- the entry of an object: its member `entry`, 418 hexadecimal digits
abbrev pub entry_in : Data → Option Entry
entry_in d = option_map entry_from (digits_in entry_length (codes "entry") d)

-- the entry that a line holds
abbrev pub entry_on : Octets → Option Entry
entry_on line = option_and_then entry_in (object_in line)
