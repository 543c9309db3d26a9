-- When the stored epochs of a state are a chain of verified entries.
use Rattle.std.specs.Prelude.{◌≡◌, ◌<◌, ℕ, suc, List, Bool, Some, slice_get}
use Rattle.coniks_proof.specs.Octets.{Octets}
use Rattle.coniks_chain.specs.Chain.{Follows, auditor_after}
use Rattle.coniks_client.specs.Feeding.{IsVerified}
use Rattle.coniks_client.specs.StoredEntry.{entry_in, verified_before}
use Rattle.coniks_client.specs.declared.stored.StoredEntry.{StoredEntry}

-- each stored entry is one of this directory: signed, of the policy, and of a form that some chain has
abbrev pub AreVerified : (Octets → Octets → Bool) → Octets → List StoredEntry → Type 0
AreVerified verdict policy stored = (k : ℕ) (mine : StoredEntry) → slice_get stored k ≡ Some mine → IsVerified verdict policy mine.entry

-- the stored epoch at a place follows the one before it, if there is one
abbrev pub FollowsAt : (Octets → Octets) → List StoredEntry → ℕ → StoredEntry → Type 0
FollowsAt hash stored place mine = (k : ℕ) (before : StoredEntry) → place ≡ suc k → slice_get stored k ≡ Some before
    → Follows verified_before (Some (auditor_after hash (entry_in before))) (entry_in mine)

-- the stored epoch at a place is verified, and follows the one before it
pub record IsGoodAt (hash : Octets → Octets) (verdict : Octets → Octets → Bool) (policy : Octets) (stored : List StoredEntry) (place : ℕ) (mine : StoredEntry) : Type 0 where
  pub verified : IsVerified verdict policy mine.entry
  pub follows : FollowsAt hash stored place mine

-- so is each of the first n
abbrev pub AreGoodTo : (Octets → Octets) → (Octets → Octets → Bool) → Octets → List StoredEntry → ℕ → Type 0
AreGoodTo hash verdict policy stored n = (k : ℕ) (mine : StoredEntry) → k < n → slice_get stored k ≡ Some mine → IsGoodAt hash verdict policy stored k mine

-- the first place at which a stored epoch is not
pub record IsFirstBad (hash : Octets → Octets) (verdict : Octets → Octets → Bool) (policy : Octets) (stored : List StoredEntry) (place : ℕ) : Type 0 where
  pub earlier : AreGoodTo hash verdict policy stored place
  pub here : (mine : StoredEntry) × (slice_get stored place ≡ Some mine) × (¬ IsGoodAt hash verdict policy stored place mine)
