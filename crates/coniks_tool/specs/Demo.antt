-- The demonstration index.
use Rattle.std.specs.Prelude.{ℕ, ◌∷◌, ◌++◌}
use Rattle.coniks_proof.specs.Octets.{Octets}
use Rattle.coniks_proof.specs.Sha256.{sha256}

-- the first byte of what an index is hashed from
abbrev pub index_tag : ℕ
index_tag = 0x56

-- the index of a name under a key: SHA-256 of the tag, the key and the name
abbrev pub demo_index : Octets → Octets → Octets
demo_index key name = sha256 (index_tag ∷ key ++ name)
