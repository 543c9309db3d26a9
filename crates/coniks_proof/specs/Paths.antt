-- Authentication paths (CONIKS, section 3.1): the siblings from the root to an index, and the end of the path.
use Rattle.std.specs.Prelude.{◌≡◌, ◌≢◌, ℕ, zero, suc, ◌-◌, List, [], ◌∷◌, length, Bool, not, map}
use Rattle.coniks_proof.specs.Bits.{bit_at, child}
use Rattle.coniks_proof.specs.Entries.{Entry, half}
use Rattle.coniks_proof.specs.Hashing.{Hashing}
use Rattle.coniks_proof.specs.Octets.{Octets}
use Rattle.coniks_proof.specs.Tree.{node}
use Rattle.coniks_proof.specs.Registry.{Registered}
use Rattle.coniks_proof.specs.declared.values.Digest.{Digest}
use Rattle.coniks_proof.specs.declared.paths.Proof.{Proof}
use Rattle.coniks_proof.specs.declared.paths.End.{End}
use Rattle.coniks_proof.specs.declared.paths.End.TheVariants.{Empty, Other, Here}

unfoldable pub siblings_below : {B : Type 0} → Hashing → ℕ → List Bool → Octets → List (Entry B) → List Octets
siblings_below by height prefix index [] = []
siblings_below by height prefix index (e ∷ []) = []
siblings_below by zero prefix index (e ∷ f ∷ es) = []
siblings_below by (suc height) prefix index (e ∷ f ∷ es) =
    let bit = bit_at index (length prefix) in
    node by (child prefix (not bit)) (half (not bit) (length prefix) (e ∷ f ∷ es))
    ∷ siblings_below by height (child prefix bit) index (half bit (length prefix) (e ∷ f ∷ es))

-- the siblings of the path to an index, from a prefix with these entries down to a level with at most one entry
unfoldable pub siblings : {B : Type 0} → Hashing → List Bool → Octets → List (Entry B) → List Octets
siblings by prefix index entries = siblings_below by (256 - length prefix) prefix index entries

unfoldable pub end_below : {B : Type 0} → ℕ → List Bool → Octets → List (Entry B) → List (Entry B)
end_below height prefix index [] = []
end_below height prefix index (e ∷ []) = e ∷ []
end_below zero prefix index (e ∷ f ∷ es) = []
end_below (suc height) prefix index (e ∷ f ∷ es) =
    let bit = bit_at index (length prefix) in
    end_below height (child prefix bit) index (half bit (length prefix) (e ∷ f ∷ es))

-- the entries at the end of the path to an index: none or one
unfoldable pub end_of : {B : Type 0} → List Bool → Octets → List (Entry B) → List (Entry B)
end_of prefix index entries = end_below (256 - length prefix) prefix index entries

-- the end of a path to an index shows what is left there
abbrev pub EndIs : Octets → List (Entry Registered) → End → Type 0
EndIs index found Empty = found ≡ []
EndIs index found (Other other commitment) =
    (other.0 ≢ index) × ((b : Registered) × (found ≡ record { index = other.0; commitment = commitment.0; behind = b } ∷ []))
EndIs index found (Here name key opening) =
    (c : Octets) × (found ≡ record { index = index; commitment = c; behind = record { name = name; key = key; opening = opening.0 } } ∷ [])

-- the siblings' hashes
abbrev pub digests : List Digest → List Octets
digests ds = map (λ d. d.0) ds

-- the proof is the path to the index in the tree over these entries
pub record IsPath (by : Hashing) (entries : List (Entry Registered)) (index : Octets) (proof : Proof) : Type 0 where
  pub siblings_are : digests proof.siblings ≡ siblings by [] index entries
  pub end_is : EndIs index (end_of [] index entries) proof.end
