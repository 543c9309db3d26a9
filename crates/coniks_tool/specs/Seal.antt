-- The demonstration seal.
use Rattle.std.specs.Prelude.{ℕ, ◌∷◌, ◌++◌, Bool, Option}
use Rattle.std.specs.Str.{bytes_eq}
use Rattle.coniks_proof.specs.Octets.{Octets}
use Rattle.coniks_proof.specs.Sha256.{sha256}
use Rattle.coniks_chain.specs.declared.entry.Entry.{Entry}

-- the first bytes of what the two halves of a seal are hashed from
abbrev pub low_tag : ℕ
low_tag = 0x41

abbrev pub high_tag : ℕ
high_tag = 0x42

-- the seal of a body's bytes under a key: SHA-256 of a tag, the key and the body, twice
abbrev pub seal_of : Octets → Octets → Octets
seal_of key body = sha256 (low_tag ∷ key ++ body) ++ sha256 (high_tag ∷ key ++ body)

-- the signature is the seal
abbrev pub is_seal : Octets → Octets → Octets → Bool
is_seal key body signature = bytes_eq signature (seal_of key body)

-- a seal with its key, how many signatures it gave, and the last entry
pub record Sealer : Type 0 where
  pub key : Octets
  pub made : ℕ
  pub last : Option Entry
