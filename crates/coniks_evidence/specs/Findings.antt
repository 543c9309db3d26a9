-- What two records of one epoch contain against a directory.
use Rattle.std.specs.Prelude.{◌≡◌, ◌≢◌, ℕ, List, Option, Some, slice_get}
use Rattle.coniks_proof.specs.Collisions.{FirstDiffer, IsCollision, hashed}
use Rattle.coniks_proof.specs.Hashing.{hashing}
use Rattle.coniks_proof.specs.Octets.{Octets}
use Rattle.coniks_proof.specs.Proofs.{stated}
use Rattle.coniks_proof.specs.declared.values.Head.{Head}
use Rattle.coniks_chain.specs.Entries.{link_preimage}
use Rattle.coniks_chain.specs.Fork.{HasNoFork, IsFork}
use Rattle.coniks_chain.specs.declared.entry.Entry.{Entry}
use Rattle.coniks_client.specs.StoredEntry.{entries_in, entry_in, epoch_in}
use Rattle.coniks_client.specs.Owner.{Scheme}
use Rattle.coniks_client.specs.declared.stored.StoredEntry.{StoredEntry}
use Rattle.coniks_evidence.specs.Records.{HasHeadAt, HasNoHead, IsFound, IsNotFound, IsUpTo, expected_by}
use Rattle.coniks_evidence.specs.declared.preimages.Colliding.{Colliding}
use Rattle.coniks_evidence.specs.declared.findings.Finding.{Finding}
use Rattle.coniks_evidence.specs.declared.findings.Finding.TheVariants.{Same, Links, Nodes, Indices, Nothing}
use Rattle.coniks_evidence.specs.declared.findings.Reason.TheVariants.{OwnerHead, ContactHead, OwnerReply, ContactReply, OtherBody, Unexpected}
use Rattle.coniks_evidence.specs.declared.records.ContactRecord.{ContactRecord}
use Rattle.coniks_evidence.specs.declared.records.OwnerRecord.{OwnerRecord}
use Rattle.coniks_evidence.specs.declared.replies.FoundReply.{FoundReply}

-- it convicts the directory or its hash: two byte strings with one hash, or two VRF proofs of the name with two indices
abbrev pub Convicts : (Octets → Octets) → Scheme → Octets → Finding → Type 0
Convicts hash scheme name Same = ⊥
Convicts hash scheme name (Links c) = IsCollision hash c.x c.y
Convicts hash scheme name (Nodes c) = IsCollision hash c.x c.y
Convicts hash scheme name (Indices a b) =
    (scheme name a.vrf.now ≡ Some a.index.0) × (scheme name b.vrf.now ≡ Some b.index.0) × (a.index.0 ≢ b.index.0)
Convicts hash scheme name (Nothing reason) = ⊥

-- two strings in which two paths part collide
abbrev pub Collides : (Octets → Octets) → Finding → Type 0
Collides hash (Nodes c) = IsCollision hash c.x c.y
Collides hash finding = Unit {0}

-- whatever is found convicts, if it is no agreement and no reason why nothing is found
abbrev pub IsTrueOf : (Octets → Octets) → Scheme → Octets → Finding → Type 0
IsTrueOf hash scheme name Same = Unit {0}
IsTrueOf hash scheme name (Nothing reason) = Unit {0}
IsTrueOf hash scheme name finding = Convicts hash scheme name finding

-- two entries of two chains that differ and have one link, the last such ones before entries that are equal
pub record FindsFork (hash : Octets → Octets) (xs ys : List StoredEntry) (c : Colliding) : Type 0 where
  pub e : Entry
  pub f : Entry
  pub fork : IsFork hash (entries_in xs) (entries_in ys) e f
  pub x : c.x ≡ link_preimage e
  pub y : c.y ≡ link_preimage f

-- what is found in two accepted replies, the first of these: the entries, the indices, the answers, what is expected
abbrev pub FindsOf : (Octets → Octets) → Option Octets → FoundReply → FoundReply → Finding → Type 0
FindsOf hash want a b (Nothing OtherBody) = (entry_in a.mine).body ≢ (entry_in b.mine).body
FindsOf hash want a b (Indices p q) = ((entry_in a.mine).body ≡ (entry_in b.mine).body) × (a.saved.index.0 ≢ b.saved.index.0)
    × (p.vrf.now ≡ a.saved.vrf.now) × (p.index ≡ a.saved.index) × (q.vrf.now ≡ b.saved.vrf.now) × (q.index ≡ b.saved.index)
FindsOf hash want a b (Nodes c) = ((entry_in a.mine).body ≡ (entry_in b.mine).body) × (a.saved.index.0 ≡ b.saved.index.0)
    × (stated a.saved.answer ≢ stated b.saved.answer)
    × FirstDiffer (hashed (hashing hash (entry_in a.mine).body.nonce.0) a.saved.index.0 0 a.saved.proof.siblings a.saved.proof.end)
    (hashed (hashing hash (entry_in a.mine).body.nonce.0) a.saved.index.0 0 b.saved.proof.siblings b.saved.proof.end) c.x c.y
FindsOf hash want a b (Nothing Unexpected) = ((entry_in a.mine).body ≡ (entry_in b.mine).body) × (a.saved.index.0 ≡ b.saved.index.0)
    × (stated a.saved.answer ≡ stated b.saved.answer) × (stated a.saved.answer ≢ want)
FindsOf hash want a b Same = ((entry_in a.mine).body ≡ (entry_in b.mine).body) × (a.saved.index.0 ≡ b.saved.index.0)
    × (stated a.saved.answer ≡ want) × (stated b.saved.answer ≡ want)
FindsOf hash want a b finding = ⊥

-- what is found in two chains up to one head: a fork, a reply that is not accepted, what both replies show
abbrev pub FindsIn : (Octets → Octets) → Scheme → ℕ → OwnerRecord → Octets → List StoredEntry → List StoredEntry → Finding → Type 0
FindsIn hash scheme epoch owner reply xs ys (Nothing (OwnerReply fault)) = IsNotFound hash scheme xs epoch owner.watch.name.now owner.reply.now fault
FindsIn hash scheme epoch owner reply xs ys (Nothing (ContactReply fault)) =
    (a : FoundReply) × IsFound hash scheme xs epoch owner.watch.name.now owner.reply.now a × IsNotFound hash scheme ys epoch owner.watch.name.now reply fault
FindsIn hash scheme epoch owner reply xs ys finding = (a : FoundReply) × (b : FoundReply) × IsFound hash scheme xs epoch owner.watch.name.now owner.reply.now a
    × IsFound hash scheme ys epoch owner.watch.name.now reply b × FindsOf hash (expected_by owner epoch) a b finding

-- what is found in two records, the first of these: a chain without the head, a fork, what two chains without a fork show
abbrev pub Finds : (Octets → Octets) → Scheme → Head → ℕ → OwnerRecord → ContactRecord → Finding → Type 0
Finds hash scheme head epoch owner contact (Nothing OwnerHead) = HasNoHead hash owner.stored.now head
Finds hash scheme head epoch owner contact (Nothing ContactHead) =
    ((place : ℕ) × HasHeadAt hash owner.stored.now head place) × HasNoHead hash contact.stored.now head
Finds hash scheme head epoch owner contact (Links c) = (xs : List StoredEntry) × (ys : List StoredEntry)
    × IsUpTo hash owner.stored.now head xs × IsUpTo hash contact.stored.now head ys × FindsFork hash xs ys c
Finds hash scheme head epoch owner contact finding = (xs : List StoredEntry) × (ys : List StoredEntry)
    × IsUpTo hash owner.stored.now head xs × IsUpTo hash contact.stored.now head ys × HasNoFork hash (entries_in xs) (entries_in ys)
    × FindsIn hash scheme epoch owner contact.reply.now xs ys finding

-- wherever an epoch is stored in two chains, it has one entry
abbrev pub HaveOneEntry : ℕ → List StoredEntry → List StoredEntry → Type 0
HaveOneEntry epoch xs ys = (k l : ℕ) (mine his : StoredEntry) → slice_get xs k ≡ Some mine → slice_get ys l ≡ Some his
    → epoch_in mine ≡ epoch → epoch_in his ≡ epoch → entry_in mine ≡ entry_in his
