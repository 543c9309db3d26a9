-- The bytes of a catch-up: entries of 209 bytes, one after another.
use Rattle.std.specs.Prelude.{◌*◌, ℕ, drop, take}
use Rattle.coniks_chain.specs.Entries.{entry_length}
use Rattle.coniks_proof.specs.Octets.{Octets}

-- the entry at a place
abbrev pub entry_part : ℕ → Octets → Octets
entry_part k bytes = take entry_length (drop (k * entry_length) bytes)
