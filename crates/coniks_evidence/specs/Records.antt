-- What the owner of a name and somebody who looked it up have stored of one epoch.
use Rattle.std.specs.Prelude.{◌≡◌, ◌≢◌, ◌⊎◌, ◌≤◌, ℕ, suc, List, Option, Some, slice_get, take}
use Rattle.coniks_proof.specs.Hashing.{hashing}
use Rattle.coniks_proof.specs.Octets.{Octets}
use Rattle.coniks_proof.specs.Proofs.{Accepts, stated}
use Rattle.coniks_proof.specs.declared.values.Head.{Head}
use Rattle.coniks_proof.specs.declared.values.Index.{Index}
use Rattle.coniks_chain.specs.declared.entry.Body.{Body}
use Rattle.coniks_chain.specs.declared.entry.Entry.{Entry}
use Rattle.coniks_client.specs.Changes.{expected, wanted}
use Rattle.coniks_client.specs.Comparing.{HasHead}
use Rattle.coniks_client.specs.StoredEntry.{IsChain, entry_in, epoch_in}
use Rattle.coniks_client.specs.Lookups.{Answers, AnswersBy, AnswersNone, IsUnknown, body_part}
use Rattle.coniks_client.specs.Owner.{Scheme}
use Rattle.coniks_client.specs.Replies.{IsNoReply, IsReply, proof_part, vrf_part}
use Rattle.coniks_client.specs.declared.stored.StoredEntry.{StoredEntry}
use Rattle.coniks_client.specs.declared.lookups.LookupFault.{LookupFault}
use Rattle.coniks_client.specs.declared.lookups.LookupFault.TheVariants.{NoReply, UnknownEpoch, OtherEpoch}
use Rattle.coniks_client.specs.declared.lookups.Saved.{Saved}
use Rattle.coniks_client.specs.declared.replies.ReplyFault.{ReplyFault}
use Rattle.coniks_evidence.specs.declared.records.OwnerRecord.{OwnerRecord}
use Rattle.coniks_evidence.specs.declared.records.ContactRecord.{ContactRecord}
use Rattle.coniks_evidence.specs.declared.replies.FoundReply.{FoundReply}

-- a reply is accepted under an entry: it has the entry's body, and its proofs show this answer of the name
pub record IsAccepted (hash : Octets → Octets) (scheme : Scheme) (entry : Entry) (name bytes : Octets) (answer : Option Octets) : Type 0 where
  pub whole : IsReply bytes
  pub same : body_part bytes ≡ entry.body
  pub answers : Answers hash scheme entry name (vrf_part bytes) (proof_part bytes) answer

-- a saved proof is accepted under an entry, at this index, with its answer
abbrev pub IsAcceptedAt : (Octets → Octets) → Entry → Index → Octets → Saved → Type 0
IsAcceptedAt hash entry index name saved = Accepts (hashing hash entry.body.nonce.0) entry.body.root.0 index.0 name saved.proof (stated saved.answer)

-- a saved reply has the body of the entry, and its proofs are accepted under it, at its index, with its answer
pub record IsSaved (hash : Octets → Octets) (scheme : Scheme) (entry : Entry) (name bytes : Octets) (saved : Saved) : Type 0 where
  pub whole : IsReply bytes
  pub same : body_part bytes ≡ entry.body
  pub verified : AnswersBy hash scheme entry name (vrf_part bytes) (proof_part bytes) saved

-- why the parts of a reply are not accepted under an entry, the first of these: the body, the proofs
abbrev pub IsUnaccepted : (Octets → Octets) → Scheme → Entry → Octets → Body → Octets → Octets → LookupFault → Type 0
IsUnaccepted hash scheme entry name body vrf bytes fault =
    ((fault ≡ OtherEpoch) × (body ≢ entry.body)) ⊎ ((body ≡ entry.body) × AnswersNone hash scheme entry name vrf bytes fault)

-- an epoch is stored, and at its place a reply is accepted: what the place and the reply have
pub record IsFound (hash : Octets → Octets) (scheme : Scheme) (stored : List StoredEntry) (epoch : ℕ) (name bytes : Octets) (found : FoundReply) : Type 0 where
  pub place : ℕ
  pub there : slice_get stored place ≡ Some found.mine
  pub epoch_is : epoch_in found.mine ≡ epoch
  pub saved : IsSaved hash scheme (entry_in found.mine) name bytes found.saved

-- an epoch is stored, and the reply is not accepted there
pub record IsNotFoundAt (hash : Octets → Octets) (scheme : Scheme) (stored : List StoredEntry) (epoch : ℕ) (name bytes : Octets) (fault : LookupFault) : Type 0 where
  pub whole : IsReply bytes
  pub place : ℕ
  pub mine : StoredEntry
  pub there : slice_get stored place ≡ Some mine
  pub epoch_is : epoch_in mine ≡ epoch
  pub refused : IsUnaccepted hash scheme (entry_in mine) name (body_part bytes) (vrf_part bytes) (proof_part bytes) fault

-- why a reply is not accepted at an epoch, the first of these: its parts, the epoch, its body, its proofs
abbrev pub IsNotFound : (Octets → Octets) → Scheme → List StoredEntry → ℕ → Octets → Octets → LookupFault → Type 0
IsNotFound hash scheme stored epoch name bytes fault = ((r : ReplyFault) × (fault ≡ NoReply r) × IsNoReply bytes r)
    ⊎ ((fault ≡ UnknownEpoch) × IsReply bytes × IsUnknown stored (Some epoch))
    ⊎ IsNotFoundAt hash scheme stored epoch name bytes fault

-- an epoch is stored, and wherever it is, a reply is accepted with this answer
pub record IsShownIn (hash : Octets → Octets) (scheme : Scheme) (stored : List StoredEntry) (epoch : ℕ) (name bytes : Octets) (answer : Option Octets) : Type 0 where
  pub stored_there : (k : ℕ) × (mine : StoredEntry) × (slice_get stored k ≡ Some mine) × (epoch_in mine ≡ epoch)
  pub accepted : (k : ℕ) (mine : StoredEntry) → slice_get stored k ≡ Some mine → epoch_in mine ≡ epoch → IsAccepted hash scheme (entry_in mine) name bytes answer

-- a head is one of the stored epochs
abbrev pub HasHeadAt : (Octets → Octets) → List StoredEntry → Head → ℕ → Type 0
HasHeadAt hash stored head place = (mine : StoredEntry) × (slice_get stored place ≡ Some mine) × HasHead hash mine head

-- it is none of them
abbrev pub HasNoHead : (Octets → Octets) → List StoredEntry → Head → Type 0
HasNoHead hash stored head = (k : ℕ) (mine : StoredEntry) → slice_get stored k ≡ Some mine → ¬ HasHead hash mine head

-- the stored epochs up to a head
abbrev pub IsUpTo : (Octets → Octets) → List StoredEntry → Head → List StoredEntry → Type 0
IsUpTo hash stored head upto = (place : ℕ) × HasHeadAt hash stored head place × (upto ≡ take (suc place) stored)

-- what the changes expect of an epoch
abbrev pub expected_by : OwnerRecord → ℕ → Option Octets
expected_by owner epoch = expected (wanted owner.watch.key.now) owner.changes.now epoch

-- an owner's record is sound: a chain that has the head and begins at or before the epoch; where the epoch is stored, the saved
-- reply shows what her changes expect
pub record IsOwnerRecord (hash : Octets → Octets) (scheme : Scheme) (head : Head) (epoch : ℕ) (owner : OwnerRecord) : Type 0 where
  pub chain : IsChain hash owner.stored.now
  pub headed : (place : ℕ) × HasHeadAt hash owner.stored.now head place
  pub begins : (mine : StoredEntry) → slice_get owner.stored.now 0 ≡ Some mine → epoch_in mine ≤ epoch
  pub shown : (k : ℕ) (mine : StoredEntry) → slice_get owner.stored.now k ≡ Some mine → epoch_in mine ≡ epoch
      → IsAccepted hash scheme (entry_in mine) owner.watch.name.now owner.reply.now (expected_by owner epoch)

-- a contact's record is sound: a chain that has the head, in which the saved reply shows this answer of the name at the epoch
pub record IsContactRecord (hash : Octets → Octets) (scheme : Scheme) (head : Head) (epoch : ℕ) (name : Octets) (contact : ContactRecord) (answer : Option Octets) : Type 0 where
  pub chain : IsChain hash contact.stored.now
  pub headed : (place : ℕ) × HasHeadAt hash contact.stored.now head place
  pub in_time : epoch ≤ head.epoch
  pub place : ℕ
  pub mine : StoredEntry
  pub there : slice_get contact.stored.now place ≡ Some mine
  pub epoch_is : epoch_in mine ≡ epoch
  pub accepted : IsAccepted hash scheme (entry_in mine) name contact.reply.now answer
