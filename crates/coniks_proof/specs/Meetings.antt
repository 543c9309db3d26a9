-- Where two paths to one index differ, as computed from both proofs.
use Rattle.coniks_proof.specs.declared.values.TheConstants.{MAX_LEVEL}
use Rattle.std.specs.Prelude.{◌≡◌, ◌≢◌, ◌≤◌, ℕ, ◌+◌, List, length, Option, None, MatchOption}
use Rattle.coniks_proof.specs.Preimages.{commitment_preimage}
use Rattle.coniks_proof.specs.Proofs.{LengthsFit, answer_of, preimage}
use Rattle.coniks_proof.specs.Collisions.{KeepsOff, Parts, committed}
use Rattle.coniks_proof.specs.Hashing.{Hashing}
use Rattle.coniks_proof.specs.Octets.{Octets}
use Rattle.coniks_proof.specs.declared.values.Digest.{Digest}
use Rattle.coniks_proof.specs.declared.paths.End.{End}
use Rattle.coniks_proof.specs.declared.paths.End.TheVariants.{Empty, Other, Here}
use Rattle.coniks_proof.specs.declared.meeting.Meeting.{Meeting}
use Rattle.coniks_proof.specs.declared.meeting.Place.{Place}
use Rattle.coniks_proof.specs.declared.meeting.Place.TheVariants.{Level, Commitments}

-- two ways from a level to one index, which can be hashed and whose ends give different answers
pub record Contradict (index : Octets) (level : ℕ) (siblings_a : List Digest) (a : End) (siblings_b : List Digest) (b : End) : Type 0 where
  pub deep_a : level + length siblings_a ≤ MAX_LEVEL
  pub deep_b : level + length siblings_b ≤ MAX_LEVEL
  pub fits_a : LengthsFit a
  pub fits_b : LengthsFit b
  pub off_a : KeepsOff index a
  pub off_b : KeepsOff index b
  pub answers : answer_of a ≢ answer_of b

-- the two ways part at this place
abbrev pub PartsAt : Hashing → Octets → ℕ → List Digest → End → List Digest → End → Place → Type 0
PartsAt by index level siblings_a a siblings_b b (Level l ss ts) =
    Parts by index level siblings_a a siblings_b b (preimage by index l ss.now a) (preimage by index l ts.now b)
PartsAt by index level siblings_a a siblings_b b Commitments =
    Parts by index level siblings_a a siblings_b b (committed a) (committed b)

-- the place is at most 256 levels deep
abbrev pub PlaceFits : Place → Type 0
PlaceFits (Level l ss ts) = (l + length ss.now ≤ MAX_LEVEL) × (l + length ts.now ≤ MAX_LEVEL)
PlaceFits Commitments = Unit {0}

-- the hashes of the two ways at this level, and the place at which they part
pub record Meets (by : Hashing) (index : Octets) (level : ℕ)
    (siblings_a : List Digest) (a : End) (siblings_b : List Digest) (b : End) (found : Meeting) : Type 0 where
  pub hash_a : found.a.0 ≡ by.hash (preimage by index level siblings_a a)
  pub hash_b : found.b.0 ≡ by.hash (preimage by index level siblings_b b)
  pub fits : PlaceFits found.place
  pub place : PartsAt by index level siblings_a a siblings_b b found.place

-- the commitment of an end with a name and key
abbrev pub CommitmentIs : (Octets → Octets) → End → Option Digest → Type 0
CommitmentIs hash Empty found = found ≡ None
CommitmentIs hash (Other other commitment) found = found ≡ None
CommitmentIs hash (Here name key opening) found = MatchOption found ⊥ (λ d. d.0 ≡ hash (commitment_preimage opening.0 name key))
