-- Joins of many pairs of parts.
use Rattle.std.specs.Prelude.{◌≡◌, ◌<◌, ◌≤◌, ◌+◌, ℕ, List, [], ◌∷◌, ◌++◌, length, Bool, true, false}
use Rattle.coniks_proof.specs.Bits.{child}
use Rattle.coniks_proof.specs.Entries.{half}
use Rattle.coniks_proof.specs.Hashing.{Hashing}
use Rattle.coniks_proof.specs.Octets.{Octets}
use Rattle.coniks_proof.specs.Preimages.{empty_preimage, leaf_preimage, inner_preimage}
use Rattle.coniks_proof.specs.Tree.{node}
use Rattle.coniks_proof.specs.declared.values.Digest.{Digest}
use Rattle.coniks_tree.specs.Table.{Numbered, Table}
use Rattle.coniks_tree.specs.Counts.{joined_count}
use Rattle.coniks_tree.specs.Parts.{Stands, Fits, KeepsNone, Placed, node_count}
use Rattle.coniks_tree.specs.declared.table.Record.{Record}
use Rattle.coniks_tree.specs.declared.part.Part.{Part, Nothing, Entry, Kept, Made'}
use Rattle.coniks_tree.specs.declared.joining.Pair.{Pair}
use Rattle.coniks_tree.specs.declared.joining.Halved.{Halved}

-- what is hashed for a part at the prefix that has no hash yet
abbrev pub requested_at : Octets → List Bool → Part → List Octets
requested_at nonce prefix Nothing = empty_preimage nonce prefix ∷ []
requested_at nonce prefix (Entry c) = leaf_preimage nonce c.index.0 (length prefix) c.commitment.0 ∷ []
requested_at nonce prefix (Kept root) = []
requested_at nonce prefix (Made' p hash lh rh count left right) = []

-- what is hashed for the sides of the pairs that have no hash yet, from left to right
abbrev pub requested_of : Octets → List Pair → List Octets
requested_of nonce [] = []
requested_of nonce (pair ∷ pairs) = requested_at nonce (child pair.prefix false) pair.left
    ++ (requested_at nonce (child pair.prefix true) pair.right ++ requested_of nonce pairs)

-- the two parts of the pair keep nodes among the first `n` only, and are of the prefixes below the pair's
pub record PairFits (n : ℕ) (pair : Pair) : Type 0 where
  pub short : length pair.prefix < 256
  pub left : Fits n (length pair.prefix + 1) pair.left
  pub right : Fits n (length pair.prefix + 1) pair.right

-- each of the pairs does
abbrev pub PairsFit : ℕ → List Pair → Type 0
PairsFit n [] = Unit {0}
PairsFit n (pair ∷ pairs) = PairFits n pair × PairsFit n pairs

-- the digest is the hash of the part at the prefix
abbrev pub IsHashAt : Hashing → Table → List Bool → Part → Digest → Type 0
IsHashAt by t prefix part d = (entries : List Numbered) → Stands by t part prefix entries → d.0 ≡ node by prefix entries

-- the pair's two parts have these hashes
pub record IsHalved (by : Hashing) (t : Table) (halved : Halved) : Type 0 where
  pub left : IsHashAt by t (child halved.pair.prefix false) halved.pair.left halved.left_hash
  pub right : IsHashAt by t (child halved.pair.prefix true) halved.pair.right halved.right_hash

-- each of them has
abbrev pub AllHalved : Hashing → Table → List Halved → Type 0
AllHalved by t [] = Unit {0}
AllHalved by t (h ∷ hs) = IsHalved by t h × AllHalved by t hs

-- what is hashed for the node over the two
abbrev pub inner_of : Halved → Octets
inner_of halved = inner_preimage halved.left_hash.0 halved.right_hash.0

-- the part is the pair's two as the part of the prefix above
pub record IsJoined (by : Hashing) (t : Table) (prefix : List Bool) (left right joined : Part) : Type 0 where
  pub fits : Fits (length t.nodes) (length prefix) joined
  pub count : node_count joined ≤ node_count left + node_count right + 1
  pub new : node_count joined ≡ joined_count left right
  pub keeps : KeepsNone left → KeepsNone right → KeepsNone joined
  pub placed : (all : List Record) → Placed all left → Placed all right → Placed all joined
  pub stands : (entries : List Numbered)
      → Stands by t left (child prefix false) (half false (length prefix) entries)
      → Stands by t right (child prefix true) (half true (length prefix) entries)
      → Stands by t joined prefix entries

-- the parts are, in order, those of the pairs
abbrev pub AllJoined : Hashing → Table → List Pair → List Part → Type 0
AllJoined by t [] [] = Unit {0}
AllJoined by t [] (part ∷ parts) = ⊥
AllJoined by t (pair ∷ pairs) [] = ⊥
AllJoined by t (pair ∷ pairs) (part ∷ parts) = IsJoined by t pair.prefix pair.left pair.right part
    × AllJoined by t pairs parts
