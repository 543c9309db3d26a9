-- The Merkle binary prefix tree over a finite map (CONIKS, section 3.1). A node is what the entries under its prefix make it:
-- empty with none, a leaf with one, interior with more.
use Rattle.std.specs.Prelude.{ℕ, zero, suc, ◌-◌, List, [], ◌∷◌, length, Bool, true, false}
use Rattle.coniks_proof.specs.Bits.{child}
use Rattle.coniks_proof.specs.Entries.{Entry, half}
use Rattle.coniks_proof.specs.Hashing.{Hashing}
use Rattle.coniks_proof.specs.Octets.{Octets}
use Rattle.coniks_proof.specs.Preimages.{empty_preimage, leaf_preimage, inner_preimage}

-- the hash of the node at a prefix with `height` bits below it, whose entries are these
unfoldable pub node_below : {B : Type 0} → Hashing → ℕ → List Bool → List (Entry B) → Octets
node_below by height prefix [] = by.hash (empty_preimage by.nonce prefix)
node_below by height prefix (e ∷ []) = by.hash (leaf_preimage by.nonce e.index (length prefix) e.commitment)
node_below by zero prefix (e ∷ f ∷ es) = []
node_below by (suc height) prefix (e ∷ f ∷ es) =
    by.hash (inner_preimage (node_below by height (child prefix false) (half false (length prefix) (e ∷ f ∷ es)))
    (node_below by height (child prefix true) (half true (length prefix) (e ∷ f ∷ es))))

-- the hash of the node at a prefix, whose entries are these
unfoldable pub node : {B : Type 0} → Hashing → List Bool → List (Entry B) → Octets
node by prefix entries = node_below by (256 - length prefix) prefix entries

-- the root of the tree over a finite map
abbrev pub root : {B : Type 0} → Hashing → List (Entry B) → Octets
root by entries = node by [] entries
