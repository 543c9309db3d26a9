-- What binds the root of a tree to its registry: the byte lists that are hashed for it, and a collision between those of two.
use Rattle.std.specs.Prelude.{◌≡◌, ℕ, zero, suc, List, [], ◌∷◌, ◌++◌, length, Bool, false, true}
use Rattle.coniks_proof.specs.Bits.{child}
use Rattle.coniks_proof.specs.Collisions.{IsCollision}
use Rattle.coniks_proof.specs.Entries.{Entry, IsIn, half}
use Rattle.coniks_proof.specs.Hashing.{Hashing, hashing}
use Rattle.coniks_proof.specs.Octets.{Octets}
use Rattle.coniks_proof.specs.Preimages.{commitment_preimage, empty_preimage, inner_preimage, leaf_preimage}
use Rattle.coniks_proof.specs.Registry.{Registered, Registry, entries_of}
use Rattle.coniks_proof.specs.Tree.{node_below}

-- the byte lists that are hashed for the tree of entries under a prefix with `height` bits below it, from the root down and from
-- left to right; after that of a leaf comes that of its commitment
unfoldable pub hashed_below : Hashing → ℕ → List Bool → List (Entry Registered) → List Octets
hashed_below by height prefix [] = empty_preimage by.nonce prefix ∷ []
hashed_below by height prefix (e ∷ []) =
    leaf_preimage by.nonce e.index (length prefix) e.commitment ∷ commitment_preimage e.behind.opening e.behind.name e.behind.key ∷ []
hashed_below by zero prefix (e ∷ f ∷ es) = []
hashed_below by (suc height) prefix (e ∷ f ∷ es) =
    let left = half false (length prefix) (e ∷ f ∷ es) in
    let right = half true (length prefix) (e ∷ f ∷ es) in
    inner_preimage (node_below by height (child prefix false) left) (node_below by height (child prefix true) right)
    ∷ hashed_below by height (child prefix false) left ++ hashed_below by height (child prefix true) right

-- the byte lists that are hashed for the tree of a registry
abbrev pub hashed_for : (hash index_of : Octets → Octets) → Octets → Registry → List Octets
hashed_for hash index_of nonce registry = hashed_below (hashing hash nonce) 256 [] (entries_of hash index_of registry)

-- a collision between a byte list of the first ones and one of the second ones
pub record Collide (hash : Octets → Octets) (xs ys : List Octets) : Type 0 where
  pub x : Octets
  pub y : Octets
  pub hashed_x : IsIn x xs
  pub hashed_y : IsIn y ys
  pub collision : IsCollision hash x y

-- each opening has 32 bytes
abbrev pub AreOpenings : Registry → Type 0
AreOpenings [] = Unit {0}
AreOpenings (b ∷ bs) = (length b.opening ≡ 32) × AreOpenings bs
