-- What the caller of C verified, and what it watches.
use Rattle.std.specs.Prelude.{◌≡◌, ◌==◌, ◌⊎◌, ℕ, List, Bool, Option, Some, None, Any, IfSome, ◌<◌, ◌≤◌, ◌^◌, if◌then◌else◌, length, max, slice_get}
use Rattle.coniks_proof.specs.Octets.{Octets}
use Rattle.coniks_proof.specs.Proofs.{stated}
use Rattle.coniks_proof.specs.Sha256.{sha256}
use Rattle.coniks_client.specs.Changes.{wanted}
use Rattle.coniks_client.specs.StoredEntry.{IsChain, epoch_in, latest_epoch}
use Rattle.coniks_client.specs.HistoryAccepting.{IsAccepted}
use Rattle.coniks_client.specs.HistoryMarking.{AreReported, IsNumbered}
use Rattle.coniks_client.specs.Lookups.{IsFound, IsStored}
use Rattle.coniks_client.specs.Owner.{IsWatched, Scheme}
use Rattle.coniks_client.specs.Replies.{entry_part, vrf_part}
use Rattle.coniks_client.specs.Steps.{Marks, given_changes, given_number}
use Rattle.coniks_client.specs.declared.changes.Change.{Change}
use Rattle.coniks_client.specs.declared.comparing.Comparison.{Comparison}
use Rattle.coniks_client.specs.declared.comparing.Comparison.TheVariants.{Equal, Differs, Unknown}
use Rattle.coniks_client.specs.declared.histories.shown.ShownStep.{ShownStep}
use Rattle.coniks_client.specs.declared.stored.StoredEntry.{StoredEntry}
use Rattle.coniks_client.specs.declared.steps.Shown.{Shown}
use Rattle.coniks_client.specs.declared.times.Present.{Present}
use Rattle.coniks_client.specs.declared.watching.Watch.{Watch}
use Rattle.coniks_c.specs.Checked.{part}
use Rattle.coniks_c.specs.Core.{changes_in, stored_in}
use Rattle.coniks_c.specs.CoreStatuses.{seen_of, shows_of}
use Rattle.coniks_c.specs.declared.core_client.RawCore.{RawCore}
use Rattle.coniks_c.specs.declared.core_values.RawFound.{RawFound}
use Rattle.coniks_c.specs.declared.core_values.RawNeeds.{RawNeeds}
use Rattle.coniks_c.specs.declared.core_values.RawWatch.{RawWatch}

-- the index that the caller passed, if its number is 1
abbrev pub reported_index : ℕ → Octets → Option Octets
reported_index reported index = if reported == 1 then Some index else None

-- the scheme gives this name and VRF proof the caller's index if and only if the caller's number is 1
abbrev pub IsIndexedBy : Scheme → Octets → Octets → ℕ → Octets → Type 0
IsIndexedBy scheme name vrf reported index = scheme name vrf ≡ reported_index reported index

-- the watched name, if the number says that one is watched
abbrev pub watch_in : RawWatch → Option Watch
watch_in raw = if raw.is_watched == 1 then Some (record { name = raw.name; since = raw.since; key = raw.key }) else None

-- what was seen of the watched name holds after a call, if it held before: each stored epoch that shows what is expected has a proof behind it
abbrev pub StaysWatched : Scheme → RawCore → RawCore → Type 0
StaysWatched scheme old new =
    IfSome (watch_in old.watch) (λ watch. IsWatched sha256 scheme watch.name.now (wanted watch.key.now) (changes_in old) (stored_in old)
    → IsWatched sha256 scheme watch.name.now (wanted watch.key.now) (changes_in new) (stored_in new))

-- the requested epoch, if the number says that one is requested
abbrev pub requested_epoch : ℕ → ℕ → Option ℕ
requested_epoch is_requested epoch = if is_requested == 1 then Some epoch else None

-- what of a reply must be verified: the signature of its entry, if the client does not keep these bytes, and its VRF proof
pub record Needs (stored : List StoredEntry) (reply : Octets) (needs : RawNeeds) : Type 0 where
  pub signature : ((needs.signature ≡ 0) × IsStored stored (entry_part reply)) ⊎ ((needs.signature ≡ 1) × (¬ IsStored stored (entry_part reply)))
  pub entry : part reply needs.entry_start 209 ≡ entry_part reply
  pub vrf : part reply needs.vrf_start needs.vrf_length ≡ vrf_part reply

-- what a lookup shows under these functions, and what becomes of the stored epochs and of the changes
pub record LooksUp (present : Present) (hash : Octets → Octets) (verdict : Octets → Octets → Bool) (scheme : Scheme) (policy : Octets) (watch : Option Watch)
    (name reply : Octets) (epoch : Option ℕ) (old new : List StoredEntry) (before after : List Change) (shown : Shown) : Type 0 where
  pub found : IsFound present hash verdict scheme policy old name reply epoch shown.place (stated shown.answer)
  pub number : (mine : StoredEntry) → slice_get old shown.place ≡ Some mine → shown.number ≡ given_number watch before name (epoch_in mine) (stated shown.answer)
  pub changes : (mine : StoredEntry) → slice_get old shown.place ≡ Some mine → after ≡ given_changes watch before name (epoch_in mine) (stated shown.answer)
  pub marks : Marks old new shown.place shown.number
  pub chain : IsChain hash old → IsChain hash new

-- what a history shows as a whole, and what becomes of the stored epochs and of the changes
pub record AcceptsAll (hash : Octets → Octets) (scheme : Scheme) (watch : Option Watch) (name history : Octets)
    (old new : List StoredEntry) (before after : List Change) (shown : List ShownStep) (count : ℕ) : Type 0 where
  pub accepted : IsAccepted hash scheme old name history shown count
  pub within : count ≤ length shown
  pub reported : AreReported watch name shown old before count new after
  pub numbered : (k : ℕ) (one : ShownStep) → k < count → slice_get shown k ≡ Some one → IsNumbered watch name new one
  pub chain : IsChain hash old → IsChain hash new

-- what is written of an answer that was found, and what becomes of the stored epochs and the changes
pub record IsAnswered (watch : Option Watch) (old new : List StoredEntry) (before after : List Change) (name reply : Octets) (found : RawFound) (answer : Option Octets) : Type 0 where
  pub mine : StoredEntry
  pub there : slice_get old found.place ≡ Some mine
  pub shows : found.shows ≡ shows_of answer
  pub seen : found.seen ≡ seen_of (given_number watch before name (epoch_in mine) answer)
  pub key : IfSome answer (λ key. part reply found.key_start found.key_length ≡ key)
  pub marks : Marks old new found.place (given_number watch before name (epoch_in mine) answer)
  pub changes : after ≡ given_changes watch before name (epoch_in mine) answer

-- the numbers of a comparison: 1 equal, 2 unknown, 3 differs
abbrev pub comparison_number : Comparison → ℕ
comparison_number (Equal place) = 1
comparison_number Unknown = 2
comparison_number Differs = 3

-- the first watched epoch: the requested one, else the latest one, or 1 without an entry
abbrev pub first_watched : List StoredEntry → ℕ → ℕ → ℕ
first_watched stored is_since since = if is_since == 1 then since else max 1 (latest_epoch stored)

-- a name that can be watched has 1 to 255 bytes, and a key fewer than 2^32
abbrev pub IsName : Octets → Type 0
IsName name = (0 < length name) × (length name ≤ 255)

abbrev pub IsKey : Octets → Type 0
IsKey key = length key < 2 ^ 32

-- the same name is watched already, from the same epoch on if one is requested, and the key is the first one or that of a change
pub record IsWatchedAlready (old new : RawWatch) (changes : List Change) (is_since : ℕ) : Type 0 where
  pub name : new.name.now ≡ old.name.now
  pub since : is_since ≡ 1 → new.since ≡ old.since
  pub key : (new.key.now ≡ old.key.now) ⊎ Any (λ change. new.key.now ≡ change.key.now) changes

-- the place of the epoch whose head is equal; else what was there before
abbrev pub place_of_equal : ℕ → Comparison → ℕ
place_of_equal was (Equal place) = place
place_of_equal was _ = was
