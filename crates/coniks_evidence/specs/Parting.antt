-- Two paths to one index, climbed together.
use Rattle.std.specs.Prelude.{◌≡◌, ℕ, List}
use Rattle.coniks_proof.specs.Collisions.{Parts, committed}
use Rattle.coniks_proof.specs.Hashing.{Hashing}
use Rattle.coniks_proof.specs.Octets.{Octets}
use Rattle.coniks_proof.specs.Preimages.{commitment_preimage}
use Rattle.coniks_proof.specs.Proofs.{preimage}
use Rattle.coniks_proof.specs.declared.values.Digest.{Digest}
use Rattle.coniks_proof.specs.declared.paths.End.{End}
use Rattle.coniks_proof.specs.declared.paths.End.TheVariants.{Here}
use Rattle.coniks_evidence.specs.declared.preimages.Colliding.{Colliding}
use Rattle.coniks_evidence.specs.declared.parting.Meeting.{Meeting}

-- both ends open a commitment, and it is one
abbrev pub OpenOne : (Octets → Octets) → End → End → Type 0
OpenOne hash (Here n k o) (Here m l p) = hash (commitment_preimage o.0 n k) ≡ hash (commitment_preimage p.0 m l)
OpenOne hash a b = ⊥

-- and these strings are hashed to it
pub record Opens (hash : Octets → Octets) (a b : End) (parts : Colliding) : Type 0 where
  pub one : OpenOne hash a b
  pub x : parts.x ≡ committed a
  pub y : parts.y ≡ committed b

-- the hashes of two paths at a level, and the first two strings that differ from there down
pub record Meets (by : Hashing) (index : Octets) (level : ℕ) (ss : List Digest) (a : End) (ts : List Digest) (b : End) (meeting : Meeting) : Type 0 where
  pub first : meeting.a.0 ≡ by.hash (preimage by index level ss a)
  pub second : meeting.b.0 ≡ by.hash (preimage by index level ts b)
  pub parts : Parts by index level ss a ts b meeting.parts.x meeting.parts.y
