-- Which records of clients are sound.
use Rattle.std.specs.Prelude.{◌≡◌, ◌≤◌, ℕ, Bool, true, Option, Some, slice_get}
use Rattle.coniks_proof.specs.Octets.{Octets}
use Rattle.coniks_proof.specs.declared.values.Head.{Head}
use Rattle.coniks_client.specs.Changes.{is_accepted, wanted}
use Rattle.coniks_client.specs.StoredEntry.{IsChain, entry_in, epoch_in}
use Rattle.coniks_client.specs.Lookups.{IsFound}
use Rattle.coniks_client.specs.Owner.{IsWatcher, Scheme}
use Rattle.coniks_client.specs.declared.stored.StoredEntry.{StoredEntry}
use Rattle.coniks_client.specs.declared.times.Present.{Present}
use Rattle.coniks_evidence.specs.Records.{HasHeadAt, IsAccepted, IsContactRecord, IsOwnerRecord}
use Rattle.coniks_evidence.specs.declared.records.ContactRecord.{ContactRecord}
use Rattle.coniks_evidence.specs.declared.records.OwnerRecord.{OwnerRecord}

-- where an epoch is stored, the saved reply is accepted, and the changes accept what it shows
abbrev pub ShowsSame : (Octets → Octets) → Scheme → ℕ → OwnerRecord → Type 0
ShowsSame hash scheme epoch owner = (k : ℕ) (mine : StoredEntry) → slice_get owner.stored.now k ≡ Some mine → epoch_in mine ≡ epoch
    → (answer : Option Octets) × IsAccepted hash scheme (entry_in mine) owner.watch.name.now owner.reply.now answer
    × (is_accepted (wanted owner.watch.key.now) owner.changes.now epoch answer ≡ true)

-- The owner law's Alice watched her name at an epoch and saw it as the same. Her chain has the head, and her changes accept what
-- her saved reply shows. Then her record is sound.
abbrev pub WatcherLaw : Type 0
WatcherLaw = (hash : Octets → Octets) (scheme : Scheme) (head : Head) (epoch : ℕ) (owner : OwnerRecord)
    → IsWatcher hash scheme owner.watch.name.now (wanted owner.watch.key.now) owner.changes.now epoch epoch owner.stored.now
    → ((place : ℕ) × HasHeadAt hash owner.stored.now head place) → ShowsSame hash scheme epoch owner → IsOwnerRecord hash scheme head epoch owner

-- A client's chain has the head, and its lookup of an epoch up to it accepted the saved reply. Then its record is sound.
abbrev pub FoundLaw : Type 0
FoundLaw = (present : Present) (hash : Octets → Octets) (verdict : Octets → Octets → Bool) (scheme : Scheme) (policy name : Octets) (head : Head) (epoch place : ℕ)
    (contact : ContactRecord) (answer : Option Octets)
    → IsChain hash contact.stored.now → ((top : ℕ) × HasHeadAt hash contact.stored.now head top) → epoch ≤ head.epoch
    → IsFound present hash verdict scheme policy contact.stored.now name contact.reply.now (Some epoch) place answer
    → IsContactRecord hash scheme head epoch name contact answer
