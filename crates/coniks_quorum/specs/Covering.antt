-- Which of the first stored epochs a client may drop.
use Rattle.std.specs.Prelude.{◌≡◌, ◌⊎◌, ◌<◌, ◌≤◌, ℕ, List, false, Option, Some, None, length, slice_get, drop}
use Rattle.coniks_proof.specs.Octets.{Octets}
use Rattle.coniks_client.specs.Changes.{begun, expected}
use Rattle.coniks_client.specs.StoredEntry.{epoch_in}
use Rattle.coniks_client.specs.Owner.{IsWatcher, Scheme}
use Rattle.coniks_client.specs.declared.changes.Change.{Change}
use Rattle.coniks_client.specs.declared.stored.StoredEntry.{StoredEntry}
use Rattle.coniks_client.specs.declared.times.Present.{Present}
use Rattle.coniks_quorum.specs.Lost.{lost_at}
use Rattle.coniks_quorum.specs.declared.lost.Promise.{Promise}

-- a stored epoch is missing, and the policy still promises a proof of it
abbrev pub IsAwaited : Present → Promise → List StoredEntry → ℕ → StoredEntry → Type 0
IsAwaited present promise stored place mine = (mine.seen ≡ 5) × (lost_at present promise stored place ≡ false)

-- a stored epoch must stay: it is the confirmed one or a later one, or it is awaited
abbrev pub MustStay : Present → Promise → List StoredEntry → ℕ → ℕ → StoredEntry → Type 0
MustStay present promise stored confirmed place mine = (confirmed ≤ epoch_in mine) ⊎ IsAwaited present promise stored place mine

-- none of the first n stored epochs must stay
abbrev pub AreDroppable : Present → Promise → List StoredEntry → ℕ → ℕ → Type 0
AreDroppable present promise stored confirmed n = (k : ℕ) (mine : StoredEntry) → k < n → slice_get stored k ≡ Some mine → ¬ MustStay present promise stored confirmed k mine

-- and the next one must
pub record AreFirstDroppable (present : Present) (promise : Promise) (stored : List StoredEntry) (confirmed n : ℕ) : Type 0 where
  pub dropped : AreDroppable present promise stored confirmed n
  pub next : (mine : StoredEntry) × (slice_get stored n ≡ Some mine) × MustStay present promise stored confirmed n mine

-- the number of stored epochs that may be dropped: those before the first one that must stay. It is 0 if no epoch is confirmed, or if
-- no stored one must stay, so a client never drops all of them
abbrev pub IsCoverable : Present → Promise → List StoredEntry → Option ℕ → ℕ → Type 0
IsCoverable present promise stored None n = n ≡ 0
IsCoverable present promise stored (Some confirmed) n =
    AreFirstDroppable present promise stored confirmed n ⊎ ((n ≡ 0) × AreDroppable present promise stored confirmed (length stored))

-- what is left of an owner's state after older epochs were dropped, with the changes that it still needs, is an owner's state: the
-- owner law holds of it from the oldest epoch that is left on
abbrev pub LeftOverLaw : Type 0
LeftOverLaw = (hash : Octets → Octets) (scheme : Scheme) (name : Octets) (key : Option Octets) (changes : List Change) (first from last n : ℕ) (stored : List StoredEntry) (oldest : StoredEntry)
    → IsWatcher hash scheme name key changes first last stored → slice_get (drop n stored) 0 ≡ Some oldest → first ≤ from → epoch_in oldest ≤ from
    → IsWatcher hash scheme name (expected key changes (epoch_in oldest)) (drop (begun changes (epoch_in oldest)) changes) from last (drop n stored)
