-- What can be wrong with a proof, and which error comes first.
use Rattle.coniks_proof.specs.declared.values.TheConstants.{MAX_KEY, MAX_LEVEL, MAX_NAME}
use Rattle.std.specs.Prelude.{◌≡◌, ◌≢◌, ◌<◌, ◌⊎◌, ℕ, length}
use Rattle.coniks_proof.specs.Bits.{first_bits}
use Rattle.coniks_proof.specs.Hashing.{Hashing}
use Rattle.coniks_proof.specs.Octets.{Octets}
use Rattle.coniks_proof.specs.Proofs.{preimage}
use Rattle.coniks_proof.specs.declared.paths.Proof.{Proof}
use Rattle.coniks_proof.specs.declared.paths.End.{End}
use Rattle.coniks_proof.specs.declared.paths.End.TheVariants.{Other, Here}
use Rattle.coniks_proof.specs.declared.checker.CheckFault.{CheckFault}
use Rattle.coniks_proof.specs.declared.checker.CheckFault.TheVariants.{TooDeep, NameLength, KeyLength, WrongName, OtherIsSame, OtherOffPath, RootMismatch}

-- the order of the errors
abbrev pub number : CheckFault → ℕ
number TooDeep = 1
number NameLength = 2
number KeyLength = 3
number WrongName = 4
number OtherIsSame = 5
number OtherOffPath = 6
number RootMismatch = 7

-- the errors of an end, at a level
abbrev pub EndHas : Octets → Octets → ℕ → End → CheckFault → Type 0
EndHas index name level (Here here key opening) KeyLength = (length key ≡ 0) ⊎ (MAX_KEY < length key)
EndHas index name level (Here here key opening) WrongName = here ≢ name
EndHas index name level (Other other commitment) OtherIsSame = other.0 ≡ index
EndHas index name level (Other other commitment) OtherOffPath = first_bits other.0 level ≢ first_bits index level
EndHas index name level _ _ = ⊥

-- the proof has this error
abbrev pub Has : Hashing → Octets → Octets → Octets → Proof → CheckFault → Type 0
Has by root index name proof TooDeep = MAX_LEVEL < length proof.siblings
Has by root index name proof NameLength = (length name ≡ 0) ⊎ (MAX_NAME < length name)
Has by root index name proof RootMismatch = by.hash (preimage by index 0 proof.siblings proof.end) ≢ root
Has by root index name proof KeyLength = EndHas index name (length proof.siblings) proof.end KeyLength
Has by root index name proof WrongName = EndHas index name (length proof.siblings) proof.end WrongName
Has by root index name proof OtherIsSame = EndHas index name (length proof.siblings) proof.end OtherIsSame
Has by root index name proof OtherOffPath = EndHas index name (length proof.siblings) proof.end OtherOffPath

-- of these errors it is the first
pub record IsFirst (has : CheckFault → Type 0) (fault : CheckFault) : Type 0 where
  pub there : has fault
  pub first : (other : CheckFault) → number other < number fault → has other → ⊥
