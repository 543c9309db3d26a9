-- What the owner of a name knows of the keys that others were shown (CONIKS, section 4: monitoring).
use Rattle.std.specs.Prelude.{◌≡◌, ◌≢◌, ◌⊎◌, ◌≤◌, ℕ, List, Option, Some, slice_get}
use Rattle.coniks_proof.specs.Collisions.{Disagree}
use Rattle.coniks_proof.specs.Hashing.{hashing}
use Rattle.coniks_proof.specs.Octets.{Octets}
use Rattle.coniks_proof.specs.Proofs.{Accepts}
use Rattle.coniks_proof.specs.declared.paths.Proof.{Proof}
use Rattle.coniks_chain.specs.Fork.{EndsWith, IsFork}
use Rattle.coniks_chain.specs.declared.entry.Entry.{Entry}
use Rattle.coniks_client.specs.StoredEntry.{IsChain, entries_in, entry_in, epoch_in}
use Rattle.coniks_client.specs.Changes.{AreInOrder, IsDecided, expected}
use Rattle.coniks_client.specs.declared.changes.Change.{Change}
use Rattle.coniks_client.specs.declared.stored.StoredEntry.{StoredEntry}

-- where names are stored: the index that a VRF proof of a name verifies to, if it does
abbrev pub Scheme : Type 0
Scheme = Octets → Octets → Option Octets

-- two VRF proofs of one name that verify to different indices; a scheme that is a function of the name has none
abbrev pub TwoIndices : Scheme → Octets → Type 0
TwoIndices scheme name = (p : Octets) × (q : Octets) × (i : Octets) × (j : Octets)
    × (scheme name p ≡ Some i) × (scheme name q ≡ Some j) × (i ≢ j)

-- a name has at most one index
abbrev pub IsFunctional : Scheme → Type 0
IsFunctional scheme = (name p q i j : Octets) → scheme name p ≡ Some i → scheme name q ≡ Some j → i ≡ j

-- under an entry, at the verified index of the name, a proof was accepted with this answer
pub record IsShown (hash : Octets → Octets) (scheme : Scheme) (entry : Entry) (name : Octets) (answer : Option Octets) : Type 0 where
  pub vrf : Octets
  pub index : Octets
  pub proof : Proof
  pub indexed : scheme name vrf ≡ Some index
  pub accepted : Accepts (hashing hash entry.body.nonce.0) entry.body.root.0 index name proof answer

-- the number of a stored epoch says that the expected key was seen
abbrev pub IsSame : ℕ → Type 0
IsSame number = number ≡ 1

-- what was expected of an epoch was shown, wherever the number says so
abbrev pub IsBacked : (Octets → Octets) → Scheme → Octets → (ℕ → Option Octets) → List StoredEntry → Type 0
IsBacked hash scheme name expected stored = (k : ℕ) (mine : StoredEntry) → slice_get stored k ≡ Some mine
    → IsSame mine.seen → IsShown hash scheme (entry_in mine) name (expected (epoch_in mine))

-- no change is open at an epoch whose number says so
abbrev pub AreDecided : List Change → List StoredEntry → Type 0
AreDecided changes stored = (k : ℕ) (mine : StoredEntry) → slice_get stored k ≡ Some mine → IsSame mine.seen → IsDecided changes (epoch_in mine)

-- the changes are in order, and each epoch that was seen as the same shows what is expected of it by the changes as they are now
pub record IsWatched (hash : Octets → Octets) (scheme : Scheme) (name : Octets) (key : Option Octets) (changes : List Change) (stored : List StoredEntry) : Type 0 where
  pub order : AreInOrder 0 changes
  pub decided : AreDecided changes stored
  pub backed : IsBacked hash scheme name (expected key changes) stored

-- each stored epoch is this one or a later one
abbrev pub AreFrom : ℕ → List StoredEntry → Type 0
AreFrom oldest stored = (k : ℕ) (mine : StoredEntry) → slice_get stored k ≡ Some mine → oldest ≤ epoch_in mine

-- each stored epoch is this one or an earlier one
abbrev pub AreUpTo : ℕ → List StoredEntry → Type 0
AreUpTo latest stored = (k : ℕ) (mine : StoredEntry) → slice_get stored k ≡ Some mine → epoch_in mine ≤ latest

-- an owner's chain up to a head: it begins at or before the first watched epoch, and each epoch of it from the first to
-- the last shows what was expected; so none is missing
pub record IsOwner (hash : Octets → Octets) (scheme : Scheme) (name : Octets) (expected : ℕ → Option Octets) (first last : ℕ) (stored : List StoredEntry) : Type 0 where
  pub chain : IsChain hash stored
  pub begins : (mine : StoredEntry) → slice_get stored 0 ≡ Some mine → epoch_in mine ≤ first
  pub same : (k : ℕ) (mine : StoredEntry) → slice_get stored k ≡ Some mine → first ≤ epoch_in mine → epoch_in mine ≤ last → IsSame mine.seen
  pub backed : IsBacked hash scheme name expected stored

-- the same of a client's state: the key and the changes that it has now say what is expected
pub record IsWatcher (hash : Octets → Octets) (scheme : Scheme) (name : Octets) (key : Option Octets) (changes : List Change) (first last : ℕ) (stored : List StoredEntry) : Type 0 where
  pub chain : IsChain hash stored
  pub begins : (mine : StoredEntry) → slice_get stored 0 ≡ Some mine → epoch_in mine ≤ first
  pub same : (k : ℕ) (mine : StoredEntry) → slice_get stored k ≡ Some mine → first ≤ epoch_in mine → epoch_in mine ≤ last → IsSame mine.seen
  pub watched : IsWatched hash scheme name key changes stored

-- two entries of the chains that differ and have one link; `extract_history` finds them
abbrev pub Fork : (Octets → Octets) → List StoredEntry → List StoredEntry → Type 0
Fork hash xs ys = (e f : Entry) × IsFork hash (entries_in xs) (entries_in ys) e f

-- two accepted proofs of the name with different answers, under one root; `extract` finds what collides in them
abbrev pub TwoAnswers : (Octets → Octets) → Entry → Octets → Type 0
TwoAnswers hash entry name = (index : Octets) × (p : Proof) × (q : Proof)
    × Disagree (hashing hash entry.body.nonce.0) entry.body.root.0 index name p name q

-- Alice's client watched her name from one epoch to another, missed none, and saw each as the same. Bob's chain ends in the
-- same head, and in one of these epochs his client accepted a key for her name. Then it is the key that the changes in her state
-- expect of this epoch; or the two chains, or two proofs under one root of them, contain two byte strings with one hash; or two
-- VRF proofs give the name two indices.
abbrev pub OwnerLaw : Type 0
OwnerLaw = (hash : Octets → Octets) (scheme : Scheme) (name : Octets) (key : Option Octets) (changes : List Change) (first last : ℕ)
    (alice bob : List StoredEntry) (head : Octets) (place : ℕ) (his : StoredEntry) (answer : Option Octets)
    → IsWatcher hash scheme name key changes first last alice → EndsWith hash (entries_in alice) head
    → IsChain hash bob → EndsWith hash (entries_in bob) head
    → slice_get bob place ≡ Some his → first ≤ epoch_in his → epoch_in his ≤ last
    → IsShown hash scheme (entry_in his) name answer
    → (answer ≡ expected key changes (epoch_in his)) ⊎ Fork hash alice bob ⊎ TwoAnswers hash (entry_in his) name ⊎ TwoIndices scheme name

-- the same for an index scheme that is a function of the name
abbrev pub OwnerLawOfFunctions : Type 0
OwnerLawOfFunctions = (hash : Octets → Octets) (scheme : Scheme) (name : Octets) (key : Option Octets) (changes : List Change) (first last : ℕ)
    (alice bob : List StoredEntry) (head : Octets) (place : ℕ) (his : StoredEntry) (answer : Option Octets)
    → IsFunctional scheme
    → IsWatcher hash scheme name key changes first last alice → EndsWith hash (entries_in alice) head
    → IsChain hash bob → EndsWith hash (entries_in bob) head
    → slice_get bob place ≡ Some his → first ≤ epoch_in his → epoch_in his ≤ last
    → IsShown hash scheme (entry_in his) name answer
    → (answer ≡ expected key changes (epoch_in his)) ⊎ Fork hash alice bob ⊎ TwoAnswers hash (entry_in his) name
