-- What a signer makes of the signature that a source gave.
use Rattle.std.specs.Prelude.{Bool, Option, Some, None, if◌then◌else◌}
use Rattle.coniks_proof.specs.Octets.{Octets}
use Rattle.coniks_chain.specs.declared.entry.Signature.{Signature}

-- the signature, if one was given and it is verified
abbrev pub verified : (Octets → Bool) → Option Signature → Option Signature
verified verdict None = None
verified verdict (Some signature) = if verdict signature.0 then Some signature else None
