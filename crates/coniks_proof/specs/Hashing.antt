-- What the nodes of a tree are hashed with.
use Rattle.coniks_proof.specs.Octets.{Octets}

-- a hash, and the nonce that it hashes with each leaf and each empty node (CONIKS, section 3.1)
pub record Hashing : Type 0 where
  pub hash : Octets → Octets
  pub nonce : Octets

-- a hash with a nonce
abbrev pub hashing : (Octets → Octets) → Octets → Hashing
hashing hash nonce = record { hash = hash; nonce = nonce }
