-- What a lookup returns.
use Rattle.std.specs.Prelude.{◌≡◌, ℕ, List, true, false, Some, None, is_some}
use Rattle.coniks_proof.specs.Batches.{fits}
use Rattle.coniks_proof.specs.Hashing.{hashing}
use Rattle.coniks_proof.specs.Octets.{Octets}
use Rattle.coniks_proof.specs.Paths.{IsPath}
use Rattle.coniks_proof.specs.Proofs.{Accepts}
use Rattle.coniks_proof.specs.Registry.{IsFree, entries_of, has_name, key_of}
use Rattle.coniks_proof.specs.declared.values.TheConstants.{MAX_NAME}
use Rattle.coniks_proof.specs.declared.paths.Proof.{Proof}
use Rattle.coniks_directory.specs.History.{Shown, shown_at, root_at}
use Rattle.coniks_directory.specs.declared.lookup.LookupFault.{LookupFault}
use Rattle.coniks_directory.specs.declared.lookup.SignedProof.{SignedProof}
use Rattle.coniks_directory.specs.declared.lookup.LookupFault.TheVariants.{UnknownEpoch, NameLength, OutOfMemory}

-- there is an epoch of this number, the name has a name's length, and the
-- proof is the path to its index in the tree of that epoch's registry
pub record IsFound (hash index_of : Octets → Octets) (history : List Shown) (t : ℕ) (name : Octets) (proof : Proof) : Type 0 where
  pub shown : Shown
  pub installed : shown_at history t ≡ Some shown
  pub sized : fits MAX_NAME name ≡ true
  pub path : IsPath (hashing hash shown.nonce) (entries_of hash index_of shown.registry) (index_of name) proof

-- the proof is accepted under the root of the epoch with exactly the key that the name is bound to, or as absence; for absence
-- no registered name may have the name's index
abbrev pub IsAcceptedAt : (Octets → Octets) → (Octets → Octets) → List Shown → ℕ → Octets → Proof → Type 0
IsAcceptedAt hash index_of history t name proof =
    (shown : Shown) → shown_at history t ≡ Some shown
    → (has_name shown.registry name ≡ false → IsFree index_of shown.registry (index_of name))
    → Accepts (hashing hash shown.nonce) (root_at hash index_of shown) (index_of name) name proof (key_of shown.registry name)

-- so it is under the root and the nonce of this entry, at this index
abbrev pub IsAcceptedUnder : (Octets → Octets) → (Octets → Octets) → List Shown → ℕ → Octets → SignedProof → Type 0
IsAcceptedUnder hash index_of history t name it =
    (shown : Shown) → shown_at history t ≡ Some shown
    → (has_name shown.registry name ≡ false → IsFree index_of shown.registry (index_of name))
    → Accepts (hashing hash it.entry.body.nonce.0) it.entry.body.root.0 it.index.0 name it.proof (key_of shown.registry name)

-- the error of a refused lookup: the first that applies
abbrev pub IsMissed : List Shown → ℕ → Octets → LookupFault → Type 0
IsMissed history t name UnknownEpoch = shown_at history t ≡ None
IsMissed history t name NameLength = (is_some (shown_at history t) ≡ true) × (fits MAX_NAME name ≡ false)
IsMissed history t name OutOfMemory = (is_some (shown_at history t) ≡ true) × (fits MAX_NAME name ≡ true)
