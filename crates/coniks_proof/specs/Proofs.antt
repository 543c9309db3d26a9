-- What a path hashes, and when it is accepted.
use Rattle.coniks_proof.specs.declared.values.TheConstants.{MAX_KEY, MAX_LEVEL, MAX_NAME}
use Rattle.std.specs.Prelude.{◌≡◌, ◌≢◌, ◌<◌, ◌≤◌, ℕ, ◌+◌, List, [], ◌∷◌, length, Bool, true, false, Option, Some, None}
use Rattle.coniks_proof.specs.Bits.{bit_at, first_bits}
use Rattle.coniks_proof.specs.Hashing.{Hashing}
use Rattle.coniks_proof.specs.Octets.{Octets}
use Rattle.coniks_proof.specs.Preimages.{empty_preimage, leaf_preimage, inner_preimage, commitment_preimage}
use Rattle.coniks_proof.specs.declared.values.Digest.{Digest}
use Rattle.coniks_proof.specs.declared.paths.Proof.{Proof}
use Rattle.coniks_proof.specs.declared.paths.End.{End}
use Rattle.coniks_proof.specs.declared.paths.End.TheVariants.{Empty, Other, Here}
use Rattle.coniks_proof.specs.declared.paths.Answer.{Answer}
use Rattle.coniks_proof.specs.declared.paths.Answer.TheVariants.{Key, Absent}

-- the byte list that is hashed at the end of a path, at a level
abbrev pub end_preimage : Hashing → Octets → ℕ → End → Octets
end_preimage by index level Empty = empty_preimage by.nonce (first_bits index level)
end_preimage by index level (Other other commitment) = leaf_preimage by.nonce other.0 level commitment.0
end_preimage by index level (Here name key opening) = leaf_preimage
    by.nonce index level (by.hash (commitment_preimage opening.0 name key))

-- an interior node over a hash on the path to an index and its sibling; the flag is whether the index goes right
abbrev pub joined : Bool → Octets → Octets → Octets
joined true sibling below = inner_preimage sibling below
joined false sibling below = inner_preimage below sibling

-- the byte list that is hashed at a level on the way to an index, over the siblings below
abbrev pub preimage : Hashing → Octets → ℕ → List Digest → End → Octets
preimage by index level [] end = end_preimage by index level end
preimage by index level (sibling ∷ siblings) end =
    joined (bit_at index level) sibling.0 (by.hash (preimage by index (level + 1) siblings end))

-- name and key can be hashed
abbrev pub LengthsFit : End → Type 0
LengthsFit Empty = Unit {0}
LengthsFit (Other other commitment) = Unit {0}
LengthsFit (Here name key opening) = (length name ≤ MAX_NAME) × (length key ≤ MAX_KEY)

-- the end is possible at a level of the path to the index, for the name
abbrev pub EndFits : Octets → Octets → ℕ → End → Type 0
EndFits index name level Empty = Unit {0}
EndFits index name level (Other other commitment) = (other.0 ≢ index) × (first_bits other.0 level ≡ first_bits index level)
EndFits index name level (Here here key opening) = (here ≡ name) × (0 < length key) × (length key ≤ MAX_KEY)

-- what the end says of the name: its key, or that it is absent
abbrev pub answer_of : End → Option Octets
answer_of Empty = None
answer_of (Other other commitment) = None
answer_of (Here name key opening) = Some key

-- what is required of a proof before any hash
pub record IsWellFormed (index name : Octets) (proof : Proof) : Type 0 where
  pub depth : length proof.siblings ≤ MAX_LEVEL
  pub name_given : 0 < length name
  pub name_fits : length name ≤ MAX_NAME
  pub end_fits : EndFits index name (length proof.siblings) proof.end

-- the proof shows, under the root and the nonce, that the name at the index has this key or is absent
pub record Accepts (by : Hashing) (root index name : Octets) (proof : Proof) (answer : Option Octets) : Type 0 where
  pub well_formed : IsWellFormed index name proof
  pub root_met : by.hash (preimage by index 0 proof.siblings proof.end) ≡ root
  pub answered : answer_of proof.end ≡ answer

-- the key of an answer, or none
abbrev pub stated : Answer → Option Octets
stated (Key key) = Some key.now
stated Absent = None
