-- Collisions of a hash, and the place at which two proofs contain one.
use Rattle.std.specs.Prelude.{◌≡◌, ◌≢◌, ℕ, ◌+◌, List, [], ◌∷◌, ◌++◌, length}
use Rattle.coniks_proof.specs.Hashing.{Hashing}
use Rattle.coniks_proof.specs.Octets.{Octets}
use Rattle.coniks_proof.specs.Preimages.{commitment_preimage}
use Rattle.coniks_proof.specs.Proofs.{end_preimage, preimage, Accepts, answer_of}
use Rattle.coniks_proof.specs.declared.values.Digest.{Digest}
use Rattle.coniks_proof.specs.declared.paths.Proof.{Proof}
use Rattle.coniks_proof.specs.declared.paths.End.{End}
use Rattle.coniks_proof.specs.declared.paths.End.TheVariants.{Empty, Other, Here}

-- two different byte lists with one hash
pub record IsCollision (hash : Octets → Octets) (x y : Octets) : Type 0 where
  pub differ : x ≢ y
  pub same_hash : hash x ≡ hash y

-- the byte list whose hash is an end's commitment
abbrev pub committed : End → Octets
committed Empty = []
committed (Other other commitment) = []
committed (Here name key opening) = commitment_preimage opening.0 name key

-- the byte lists that are hashed at the end of a path
abbrev pub hashed_at_end : Hashing → Octets → ℕ → End → List Octets
hashed_at_end by index level Empty = end_preimage by index level Empty ∷ []
hashed_at_end by index level (Other other commitment) = end_preimage by index level (Other other commitment) ∷ []
hashed_at_end by index level (Here name key opening) =
    end_preimage by index level (Here name key opening) ∷ commitment_preimage opening.0 name key ∷ []

-- the byte lists that are hashed on the way to an index, from a level down
abbrev pub hashed : Hashing → Octets → ℕ → List Digest → End → List Octets
hashed by index level [] end = hashed_at_end by index level end
hashed by index level (sibling ∷ siblings) end =
    preimage by index level (sibling ∷ siblings) end ∷ hashed by index (level + 1) siblings end

-- x and y are at one place of the two lists, which are equal before it
pub record FirstDiffer (xs ys : List Octets) (x y : Octets) : Type 0 where
  pub before : List Octets
  pub after_x : List Octets
  pub after_y : List Octets
  pub xs_are : xs ≡ before ++ x ∷ after_x
  pub ys_are : ys ≡ before ++ y ∷ after_y
  pub differ : x ≢ y

-- both proofs are accepted, and their answers differ
pub record Disagree (by : Hashing) (root index name_a : Octets) (a : Proof) (name_b : Octets) (b : Proof) : Type 0 where
  pub left : Accepts by root index name_a a (answer_of a.end)
  pub right : Accepts by root index name_b b (answer_of b.end)
  pub differ : answer_of a.end ≢ answer_of b.end

-- the end's own index, if it has one, is not the index requested
abbrev pub KeepsOff : Octets → End → Type 0
KeepsOff index Empty = Unit {0}
KeepsOff index (Other other commitment) = other.0 ≢ index
KeepsOff index (Here name key opening) = Unit {0}

-- the values of 32 bytes have 32 bytes
abbrev pub IsSized : End → Type 0
IsSized Empty = Unit {0}
IsSized (Other other commitment) = length other.0 ≡ 32
IsSized (Here name key opening) = length opening.0 ≡ 32

-- the first two hashed byte lists of two paths from one level that differ
pub record Parts (by : Hashing) (index : Octets) (level : ℕ)
    (siblings_a : List Digest) (a : End) (siblings_b : List Digest) (b : End) (x y : Octets) : Type 0 where
  pub place : FirstDiffer (hashed by index level siblings_a a) (hashed by index level siblings_b b) x y
  pub same_hash : by.hash (preimage by index level siblings_a a) ≡ by.hash (preimage by index level siblings_b b) → by.hash x ≡ by.hash y
