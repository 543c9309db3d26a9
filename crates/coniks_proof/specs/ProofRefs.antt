-- What a borrowed proof represents.
use Rattle.std.specs.Prelude.{List, map}
use Rattle.coniks_proof.specs.Octets.{Octets}
use Rattle.coniks_proof.specs.declared.values.Digest.{Digest}
use Rattle.coniks_proof.specs.declared.paths.End.{End}
use Rattle.coniks_proof.specs.declared.paths.End.TheVariants.{Empty, Other, Here}
use Rattle.coniks_proof.specs.declared.proof_ref.Siblings.{Siblings}
use Rattle.coniks_proof.specs.declared.proof_ref.Siblings.TheVariants.{Listed, Wire}
use Rattle.coniks_proof.specs.declared.proof_ref.EndRef.{EndRef}
use Rattle.coniks_proof.specs.declared.proof_ref.EndRef.TheVariants.{Empty as EmptyThere, Other as OtherThere, Here as HereThere}

-- a digest of these bytes
abbrev pub digest_of : Octets → Digest
digest_of bytes = record { 0 = bytes }

-- the siblings, from the root down
abbrev pub listed : Siblings → List Digest
listed (Listed digests) = digests.now
listed (Wire strings) = map digest_of strings.now

-- the end of the borrowed proof
abbrev pub owned : EndRef → End
owned EmptyThere = Empty
owned (OtherThere index commitment) = Other index commitment
owned (HereThere name key opening) = Here name.now key.now opening
