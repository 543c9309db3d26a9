-- The steps of a client, and what each of them keeps.
use Rattle.std.specs.Int.{to_be_bytes, w64}
use Rattle.std.specs.Option.{option_map}
use Rattle.coniks_client.specs.StoredEntry.{IsChain, entry_in, epoch_in, latest_in, verified_before}
use Rattle.coniks_client.specs.Changes.{marked, wanted}
use Rattle.coniks_client.specs.declared.changes.Change.{Change}
use Rattle.std.specs.Prelude.{◌≡◌, ◌≢◌, ◌<◌, ◌≤◌, ◌-◌, ◌&&◌, ◌↔◌, ℕ, List, [], ◌∷◌, ◌++◌, Bool, Option, Some, None, if◌then◌else◌, nat_le, length, slice_get}
use Rattle.std.proofs.Math.ListN.{set}
use Rattle.std.specs.Str.{bytes_eq}
use Rattle.coniks_proof.specs.Octets.{Octets}
use Rattle.coniks_chain.specs.Chain.{Follows, auditor_after}
use Rattle.coniks_chain.specs.Entries.{entry_from}
use Rattle.coniks_chain.specs.declared.entry.Entry.{Entry}
use Rattle.coniks_client.specs.Feeding.{AreOwn, Continues, ConvictsNone, IsSignedAgain, IsVerified}
use Rattle.coniks_client.specs.Owner.{IsSame, IsShown, Scheme}
use Rattle.coniks_client.specs.Watching.{first_number, seen_number}
use Rattle.coniks_client.specs.declared.stored.StoredEntry.{StoredEntry}
use Rattle.coniks_client.specs.declared.steps.Accepted.{Accepted}
use Rattle.coniks_client.specs.declared.steps.Accepted.TheVariants.{Next, Again}
use Rattle.coniks_client.specs.declared.watching.Watch.{Watch}

-- the number of a new epoch
abbrev pub new_number : Option Watch → ℕ → ℕ
new_number None epoch = 0
new_number (Some watch) epoch = first_number watch epoch

-- a stored epoch more
abbrev pub with_one : List StoredEntry → StoredEntry → List StoredEntry
with_one stored mine = stored ++ mine ∷ []

-- another stored epoch in the place of the latest one
abbrev pub with_latest : List StoredEntry → StoredEntry → List StoredEntry
with_latest stored mine = set stored (length stored - 1) mine

-- the stored epochs, once an entry was accepted
abbrev pub stored_with : List StoredEntry → Accepted → List StoredEntry
stored_with stored (Next mine) = with_one stored mine
stored_with stored (Again mine) = with_latest stored mine

-- what is stored of an entry that continues the chain
abbrev pub new_stored : Option Watch → Octets → ℕ → StoredEntry
new_stored watch bytes time = record { entry = bytes; first_seen = to_be_bytes w64 time; seen = new_number watch (entry_from bytes).body.t }

-- what is stored of the latest entry, signed again
abbrev pub again_stored : StoredEntry → Octets → StoredEntry
again_stored latest bytes = record latest { entry = bytes }

-- the bytes are accepted: they are an entry that continues the chain, or the latest one, signed again
abbrev pub IsAccepted : (Octets → Octets) → (Octets → Octets → Bool) → Octets → List StoredEntry → Option Watch → Octets → ℕ → Accepted → Type 0
IsAccepted hash verdict policy stored watch bytes time (Next mine) = Continues hash verdict policy stored bytes × (mine ≡ new_stored watch bytes time)
IsAccepted hash verdict policy stored watch bytes time (Again mine) =
    IsVerified verdict policy bytes × ((latest : StoredEntry) × IsSignedAgain stored latest (entry_from bytes) × (mine ≡ again_stored latest bytes))

-- the number at a place was changed, and nothing else
pub record AreMarked (old new : List StoredEntry) (place number : ℕ) : Type 0 where
  pub others : (k : ℕ) → k ≢ place → slice_get new k ≡ slice_get old k
  pub here : (was : StoredEntry) → slice_get old place ≡ Some was → slice_get new place ≡ Some (record was { seen = number })

-- what a lookup changes: the number of its epoch, or nothing
abbrev pub Marks : List StoredEntry → List StoredEntry → ℕ → Option ℕ → Type 0
Marks old new place None = new ≡ old
Marks old new place (Some number) = AreMarked old new place number

-- the name is watched at an epoch
abbrev pub is_watched : Watch → Octets → ℕ → Bool
is_watched watch name epoch = (bytes_eq name watch.name.now) && (nat_le watch.since epoch)

-- the number that an answer gives its epoch, if the name is watched there
abbrev pub given_number : Option Watch → List Change → Octets → ℕ → Option Octets → Option ℕ
given_number None changes name epoch answer = None
given_number (Some watch) changes name epoch answer =
    if is_watched watch name epoch then Some (seen_number watch changes epoch answer) else None

-- the changes once it is given
abbrev pub given_changes : Option Watch → List Change → Octets → ℕ → Option Octets → List Change
given_changes None changes name epoch answer = changes
given_changes (Some watch) changes name epoch answer =
    if is_watched watch name epoch then marked (wanted watch.key.now) changes epoch answer else changes

-- a number that says that the expected key was seen
abbrev pub SaysSame : Option ℕ → Type 0
SaysSame None = ⊥
SaysSame (Some number) = IsSame number

-- a stored epoch with the number that a function gives it
abbrev pub with_number : (StoredEntry → ℕ) → StoredEntry → StoredEntry
with_number number mine = record mine { seen = number mine }

-- each stored epoch has the number that a function gives it, and is else as it was
abbrev pub AreRenumbered : (StoredEntry → ℕ) → List StoredEntry → List StoredEntry → Type 0
AreRenumbered number old new = (k : ℕ) → slice_get new k ≡ option_map (with_number number) (slice_get old k)

-- so are the first n, and the others are as they were
pub record AreRenumberedTo (number : StoredEntry → ℕ) (old new : List StoredEntry) (n : ℕ) : Type 0 where
  pub done : (k : ℕ) → k < n → slice_get new k ≡ option_map (with_number number) (slice_get old k)
  pub left : (k : ℕ) → n ≤ k → slice_get new k ≡ slice_get old k

-- when a name begins to be watched, each epoch from the first watched one on is missing
abbrev pub unseen_number : Watch → StoredEntry → ℕ
unseen_number watch mine = first_number watch (epoch_in mine)

-- An entry that is signed again is not the next one.
abbrev pub NotNextLaw : Type 0
NotNextLaw = (hash : Octets → Octets) (stored : List StoredEntry) (latest : StoredEntry) (entry : Entry)
    → IsSignedAgain stored latest entry → ¬ Follows verified_before (latest_in hash stored) entry

-- It is evidence with no stored entry, if these are a chain of well-formed entries of the client's policy.
abbrev pub NoEvidenceLaw : Type 0
NoEvidenceLaw = (hash : Octets → Octets) (policy : Octets) (stored : List StoredEntry) (latest : StoredEntry) (entry : Entry)
    → IsChain hash stored → AreOwn policy stored → IsSignedAgain stored latest entry → ConvictsNone stored entry

-- Under it exactly the same is shown as under the latest one.
abbrev pub ShownAgainLaw : Type 0
ShownAgainLaw = (hash : Octets → Octets) (scheme : Scheme) (stored : List StoredEntry) (latest : StoredEntry) (entry : Entry) (name : Octets) (answer : Option Octets)
    → IsSignedAgain stored latest entry → IsShown hash scheme (entry_in latest) name answer ↔ IsShown hash scheme entry name answer

-- What follows it follows the stored epochs once it is in the place of the latest one. So a client that is fed it goes on, whichever of
-- the two signatures the next entry links to.
abbrev pub GoesOnLaw : Type 0
GoesOnLaw = (hash : Octets → Octets) (stored : List StoredEntry) (latest mine : StoredEntry) (next : Entry) → IsSignedAgain stored latest (entry_in mine)
    → Follows verified_before (Some (auditor_after hash (entry_in mine))) next → Follows verified_before (latest_in hash (with_latest stored mine)) next
