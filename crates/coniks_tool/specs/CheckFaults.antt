-- The first error of a proof, computed.
use Rattle.std.specs.Prelude.{ℕ, List, [], ◌∷◌, length, ◌==◌, ◌||◌, Bool, true, false, not, nat_lt, Option, find, if◌then◌else◌}
use Rattle.std.specs.Str.{bytes_eq}
use Rattle.coniks_proof.specs.Bits.{first_bits}
use Rattle.coniks_proof.specs.Hashing.{Hashing}
use Rattle.coniks_proof.specs.Octets.{Octets}
use Rattle.coniks_proof.specs.Proofs.{preimage}
use Rattle.coniks_proof.specs.declared.values.TheConstants.{MAX_KEY, MAX_LEVEL, MAX_NAME}
use Rattle.coniks_proof.specs.declared.paths.Proof.{Proof}
use Rattle.coniks_proof.specs.declared.paths.End.{End}
use Rattle.coniks_proof.specs.declared.paths.End.TheVariants.{Other, Here}
use Rattle.coniks_proof.specs.declared.checker.CheckFault.{CheckFault}
use Rattle.coniks_proof.specs.declared.checker.CheckFault.TheVariants.{TooDeep, NameLength, KeyLength, WrongName, OtherIsSame, OtherOffPath, RootMismatch}

-- whether two lists of bits are the same
abbrev pub same_bits : List Bool → List Bool → Bool
same_bits [] [] = true
same_bits [] (y ∷ ys) = false
same_bits (x ∷ xs) [] = false
same_bits (true ∷ xs) (y ∷ ys) = if y then same_bits xs ys else false
same_bits (false ∷ xs) (y ∷ ys) = if y then false else same_bits xs ys

-- whether a length is 0 or above a limit
abbrev pub is_off : ℕ → ℕ → Bool
is_off limit n = n == 0 || nat_lt limit n

-- whether an end has an error, at a level
abbrev pub end_has : Octets → Octets → ℕ → End → CheckFault → Bool
end_has index name level (Here here key opening) KeyLength = is_off MAX_KEY (length key)
end_has index name level (Here here key opening) WrongName = not (bytes_eq here name)
end_has index name level (Other other commitment) OtherIsSame = bytes_eq other.0 index
end_has index name level (Other other commitment) OtherOffPath = not (same_bits (first_bits other.0 level) (first_bits index level))
end_has index name level _ _ = false

-- whether a proof has an error
abbrev pub has : Hashing → Octets → Octets → Octets → Proof → CheckFault → Bool
has by root index name proof TooDeep = nat_lt MAX_LEVEL (length proof.siblings)
has by root index name proof NameLength = is_off MAX_NAME (length name)
has by root index name proof RootMismatch = not (bytes_eq (by.hash (preimage by index 0 proof.siblings proof.end)) root)
has by root index name proof fault = end_has index name (length proof.siblings) proof.end fault

-- the errors in the order in which they are checked
abbrev pub check_faults : List CheckFault
check_faults = TooDeep ∷ NameLength ∷ KeyLength ∷ WrongName ∷ OtherIsSame ∷ OtherOffPath ∷ RootMismatch ∷ []

-- the first error of a proof
unfoldable pub check_fault : Hashing → Octets → Octets → Octets → Proof → Option CheckFault
check_fault by root index name proof = find (has by root index name proof) check_faults
