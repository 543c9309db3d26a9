-- Finite maps from indices, as lists of entries with distinct indices. The order does not matter.
use Rattle.std.specs.Prelude.{◌≡◌, ◌⊎◌, ℕ, suc, List, [], ◌∷◌, Bool, filter}
use Rattle.coniks_proof.specs.Bits.{turns}
use Rattle.coniks_proof.specs.Octets.{Octets}

-- an index, its commitment, and what is committed to, which no hash of a node reads
pub record Entry (B : Type 0) : Type 0 where
  pub index : Octets
  pub commitment : Octets
  pub behind : B

-- the entry with something else behind it
abbrev pub backed_by : {B C : Type 0} → (B → C) → Entry B → Entry C
backed_by f e = record { index = e.index; commitment = e.commitment; behind = f e.behind }

-- one of the list is this
abbrev pub IsIn : {T : Type 0} → T → List T → Type 0
IsIn x [] = ⊥
IsIn x (y ∷ ys) = (y ≡ x) ⊎ IsIn x ys

-- of the entries under a prefix of `level` bits, those whose index goes on with this bit
abbrev pub half : {B : Type 0} → Bool → ℕ → List (Entry B) → List (Entry B)
half bit level entries = filter (λ e. turns bit level e.index) entries

-- of all entries, those whose index goes on with these bits from a level on
abbrev pub under_from : {B : Type 0} → ℕ → List Bool → List (Entry B) → List (Entry B)
under_from level [] entries = entries
under_from level (bit ∷ bits) entries = under_from (suc level) bits (half bit level entries)

-- the entries whose index begins with the prefix
abbrev pub under : {B : Type 0} → List Bool → List (Entry B) → List (Entry B)
under prefix entries = under_from 0 prefix entries
