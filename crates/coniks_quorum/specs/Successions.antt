-- When a client goes on in the directory that a succession names, and what it expects there.
use Rattle.std.specs.Prelude.{◌≡◌, ◌≢◌, ◌+◌, ◌-◌, ◌^◌, ℕ, List, [], ◌∷◌, Bool, true, false, Option, Some, None, if◌then◌else◌, map, min, nat_lt, slice_get}
use Rattle.coniks_proof.specs.Octets.{Octets}
use Rattle.coniks_proof.specs.declared.values.Head.{Head}
use Rattle.coniks_chain.specs.Entries.{entry_from}
use Rattle.coniks_client.specs.Changes.{AreInOrder, begun}
use Rattle.coniks_client.specs.Comparing.{Compares}
use Rattle.coniks_client.specs.Feeding.{IsRefusedAlone, IsVerified}
use Rattle.coniks_client.specs.Owner.{IsSame, IsWatched, Scheme}
use Rattle.coniks_client.specs.declared.changes.Change.{Change}
use Rattle.coniks_client.specs.declared.comparing.Comparison.TheVariants.{Equal, Differs, Unknown}
use Rattle.coniks_client.specs.declared.stored.StoredEntry.{StoredEntry}
use Rattle.coniks_quorum.specs.Auditors.{Auditor}
use Rattle.coniks_quorum.specs.Clients.{IsClient}
use Rattle.coniks_quorum.specs.Vouching.{head_of}
use Rattle.coniks_quorum.specs.declared.successions.Succession.{Succession}
use Rattle.coniks_quorum.specs.declared.successions.SuccessionFault.{SuccessionFault}
use Rattle.coniks_quorum.specs.declared.successions.SuccessionFault.TheVariants.{SuccessionPolicy, SuccessionSignature, NextPolicy, UnknownEpoch, ChainDiffers, OfEntry, OtherStart}

-- the succession ends this policy, its successor key signed it, and it names the next policy
pub record IsNamed (policy next : Octets) (succession : Succession) : Type 0 where
  pub ends : succession.policy ≡ policy
  pub signed : succession.is_signed ≡ true
  pub names : succession.next_policy ≡ next

-- why not, the first of these
abbrev pub IsMisnamed : Octets → Octets → Succession → SuccessionFault → Type 0
IsMisnamed policy next succession SuccessionPolicy = succession.policy ≢ policy
IsMisnamed policy next succession SuccessionSignature = (succession.policy ≡ policy) × (succession.is_signed ≡ false)
IsMisnamed policy next succession NextPolicy = (succession.policy ≡ policy) × (succession.is_signed ≡ true) × (succession.next_policy ≢ next)
IsMisnamed policy next succession _ = ⊥

-- why no stored epoch has the last head
abbrev pub IsNoLast : (Octets → Octets) → List StoredEntry → Head → SuccessionFault → Type 0
IsNoLast hash stored last UnknownEpoch = Compares hash stored last Unknown
IsNoLast hash stored last ChainDiffers = Compares hash stored last Differs
IsNoLast hash stored last _ = ⊥

-- the bytes are an entry of the next directory, which has the first head
pub record HasFirst (hash : Octets → Octets) (verdict : Octets → Octets → Bool) (next : Octets) (first : Head) (bytes : Octets) : Type 0 where
  pub verified : IsVerified verdict next bytes
  pub head : head_of hash (entry_from bytes) ≡ first

-- why not, the first of these
abbrev pub IsNotFirst : (Octets → Octets) → (Octets → Octets → Bool) → Octets → Head → Octets → SuccessionFault → Type 0
IsNotFirst hash verdict next first bytes (OfEntry fault) = IsRefusedAlone verdict next [] bytes fault
IsNotFirst hash verdict next first bytes OtherStart = IsVerified verdict next bytes × (head_of hash (entry_from bytes) ≢ first)
IsNotFirst hash verdict next first bytes _ = ⊥

-- a client goes on with these bytes: the succession is one of its policy, the epoch at this place is the last one, and the bytes are
-- the first entry that counts
pub record Succeeds (hash : Octets → Octets) (verdict : Octets → Octets → Bool) (policy next : Octets) (stored : List StoredEntry) (succession : Succession)
    (bytes : Octets) (place : ℕ) : Type 0 where
  pub named : IsNamed policy next succession
  pub last : Compares hash stored succession.last (Equal place)
  pub first : HasFirst hash verdict next succession.first bytes

-- a stored epoch is the last one
abbrev pub HasLast : (Octets → Octets) → List StoredEntry → Head → Type 0
HasLast hash stored last = (place : ℕ) × Compares hash stored last (Equal place)

-- why a client does not go on, the first of these
abbrev pub IsRefusedSuccession : (Octets → Octets) → (Octets → Octets → Bool) → Octets → Octets → List StoredEntry → Succession → Octets → SuccessionFault → Type 0
IsRefusedSuccession hash verdict policy next stored succession bytes SuccessionPolicy = IsMisnamed policy next succession SuccessionPolicy
IsRefusedSuccession hash verdict policy next stored succession bytes SuccessionSignature = IsMisnamed policy next succession SuccessionSignature
IsRefusedSuccession hash verdict policy next stored succession bytes NextPolicy = IsMisnamed policy next succession NextPolicy
IsRefusedSuccession hash verdict policy next stored succession bytes UnknownEpoch =
    IsNamed policy next succession × IsNoLast hash stored succession.last UnknownEpoch
IsRefusedSuccession hash verdict policy next stored succession bytes ChainDiffers =
    IsNamed policy next succession × IsNoLast hash stored succession.last ChainDiffers
IsRefusedSuccession hash verdict policy next stored succession bytes (OfEntry fault) =
    IsNamed policy next succession × HasLast hash stored succession.last × IsNotFirst hash verdict next succession.first bytes (OfEntry fault)
IsRefusedSuccession hash verdict policy next stored succession bytes OtherStart =
    IsNamed policy next succession × HasLast hash stored succession.last × IsNotFirst hash verdict next succession.first bytes OtherStart

-- the greatest number of an epoch
abbrev pub latest_number : ℕ
latest_number = 2 ^ 64 - 1

-- a change in the numbers of the next chain: open after the epoch before the first that counts, and begun as many epochs after the
-- first that counts as after the last one, at most the greatest number
abbrev pub moved : ℕ → ℕ → Change → Change
moved last first change = record change { last_old = first - 1; first_new = min (first + (change.first_new - last)) latest_number }

-- the next change goes on if it is open at the last epoch
abbrev pub open_at : ℕ → ℕ → Option Change → Option Change
open_at last first None = None
open_at last first (Some next) = if nat_lt next.last_old last then Some (moved last first next) else None

-- the change that goes on: none that has begun at the last epoch
abbrev pub carried : List Change → ℕ → ℕ → Option Change
carried changes last first = open_at last first (slice_get changes (begun changes last))

-- the changes of the next client
abbrev pub changes_of : Option Change → List Change
changes_of None = []
changes_of (Some change) = change ∷ []

-- The next client keeps the first entry that counts alone, and its marks of 0 are right of any auditors.
abbrev pub NextClientLaw : Type 0
NextClientLaw = (hash : Octets → Octets) (auditors : List Auditor) (mine : StoredEntry) → IsClient hash auditors [] (mine ∷ []) (map (λ auditor. 0) auditors)

-- Of an epoch that has not been seen yet nothing has to be shown. So what the owner law asks holds of the next client from its start on.
abbrev pub NextWatchLaw : Type 0
NextWatchLaw = (hash : Octets → Octets) (scheme : Scheme) (name : Octets) (key : Option Octets) (changes : List Change) (mine : StoredEntry)
    → AreInOrder 0 changes → ¬ IsSame mine.seen → IsWatched hash scheme name key changes (mine ∷ [])
