-- What the bytes of a proof that C hands in say.
use Rattle.std.specs.Prelude.{ℕ, Option, take, drop}
use Rattle.coniks_proof.specs.Faults.{Has, IsFirst}
use Rattle.coniks_proof.specs.Hashing.{hashing}
use Rattle.coniks_proof.specs.Octets.{Octets}
use Rattle.coniks_proof.specs.Proofs.{Accepts}
use Rattle.coniks_proof.specs.Sha256.{sha256}
use Rattle.coniks_proof.specs.Wire.{IsWire}
use Rattle.coniks_proof.specs.declared.checker.CheckFault.{CheckFault}
use Rattle.coniks_proof.specs.declared.paths.Proof.{Proof}

-- the bytes are a proof that shows this answer under the root and the nonce
abbrev pub ShowsAnswer : Octets → Octets → Octets → Octets → Octets → Option Octets → Type 0
ShowsAnswer nonce root index name bytes answer = (proof : Proof) × IsWire bytes proof
    × Accepts (hashing sha256 nonce) root index name proof answer

-- the bytes are a proof's, and this is its first error
abbrev pub IsRefusedCheck : Octets → Octets → Octets → Octets → Octets → CheckFault → Type 0
IsRefusedCheck nonce root index name bytes fault = (proof : Proof)
    × IsWire bytes proof × IsFirst (Has (hashing sha256 nonce) root index name proof) fault

-- this number of bytes, from a place on
abbrev pub part : Octets → ℕ → ℕ → Octets
part bytes from count = take count (drop from bytes)
