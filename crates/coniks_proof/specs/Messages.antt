-- What is hashed for a node, retained until it is hashed.
use Rattle.std.specs.Prelude.{◌≡◌, List, ◌∷◌, ◌++◌, map}
use Rattle.coniks_proof.specs.Octets.{Octets}
use Rattle.coniks_proof.specs.Preimages.{packed, inner_preimage}
use Rattle.coniks_proof.specs.declared.messages.Message.{Message}
use Rattle.coniks_proof.specs.declared.values.Digest.{Digest}
use Rattle.coniks_proof.specs.declared.messages.Message.TheVariants.{Empty, Leaf, Inner}

-- the byte list of a message under a nonce
abbrev pub preimage_of : Octets → Message → Octets
preimage_of nonce (Empty prefix level) = 0x45 ∷ nonce ++ packed prefix 32 ++ level
preimage_of nonce (Leaf index level commitment) = 0x4C ∷ nonce ++ index.0 ++ level ++ commitment.0
preimage_of nonce (Inner left right) = inner_preimage left.0 right.0

-- the hashes of messages, up to those that are left, are appended to a list
abbrev pub AreAppended : (Message → Octets) → List Digest → List Digest → List Message → List Message → Type 0
AreAppended hash_of before after messages rest = map (λ hash. hash.0) after ++ map hash_of rest ≡ map (λ hash. hash.0) before ++ map hash_of messages
