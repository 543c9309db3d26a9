-- Parts of one size, and the bytes that they are.
use Rattle.std.specs.Prelude.{◌≡◌, ◌<◌, ℕ, length}
use Rattle.std.proofs.Common.{get_or}
use Rattle.coniks_proof.specs.Octets.{Octets}

-- each number is a byte
abbrev pub AreOctets : Octets → Type 0
AreOctets bytes = (i : ℕ) → get_or bytes i 0 < 256

-- elements whose bytes have one size, what such bytes are read as, and what is known of these elements
pub record IsCode {X : Type 0} (one_bytes : X → Octets) (one_from : Octets → X) (IsPart : X → Type 0) (one : ℕ) : Type 0 where
  pub long : (x : X) → IsPart x → length (one_bytes x) ≡ one
  pub back : (bytes : Octets) → length bytes ≡ one → AreOctets bytes → one_bytes (one_from bytes) ≡ bytes
  pub is : (bytes : Octets) → length bytes ≡ one → AreOctets bytes → IsPart (one_from bytes)
  pub same : (a b : X) → IsPart a → IsPart b → one_bytes a ≡ one_bytes b → a ≡ b
