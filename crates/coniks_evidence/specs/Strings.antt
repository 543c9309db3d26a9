-- Byte strings that are hashed, as the parts that they are made of.
use Rattle.std.specs.Prelude.{◌≤◌, ◌∷◌, ◌++◌, length}
use Rattle.coniks_proof.specs.Octets.{Octets}
use Rattle.coniks_proof.specs.declared.values.TheConstants.{MAX_KEY, MAX_NAME}
use Rattle.coniks_evidence.specs.declared.preimages.Parts.{Parts}
use Rattle.coniks_evidence.specs.declared.preimages.Parts.TheVariants.{Link, Empty, Leaf, Inner, Commitment}

-- the parts, one after another, behind the tag of their kind
abbrev pub string_of : Parts → Octets
string_of (Link entry) = 0x53 ∷ entry.now
string_of (Empty nonce prefix level) = 0x45 ∷ nonce.0 ++ prefix ++ level
string_of (Leaf nonce index level commitment) = 0x4C ∷ nonce.0 ++ index.0 ++ level ++ commitment.0
string_of (Inner left right) = 0x49 ∷ left.0 ++ right.0
string_of (Commitment opening name_length name key_length key) = 0x43 ∷ opening.0 ++ name_length ++ name.now ++ key_length ++ key.now

-- name and key are as long as a directory accepts
abbrev pub PartsFit : Parts → Type 0
PartsFit (Link entry) = Unit {0}
PartsFit (Empty nonce prefix level) = Unit {0}
PartsFit (Leaf nonce index level commitment) = Unit {0}
PartsFit (Inner left right) = Unit {0}
PartsFit (Commitment opening name_length name key_length key) = (length name.now ≤ MAX_NAME) × (length key.now ≤ MAX_KEY)
