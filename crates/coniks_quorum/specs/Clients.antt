-- What a client keeps of all that it ever accepted.
use Rattle.std.specs.Prelude.{◌≡◌, ◌<◌, ◌≤◌, ◌++◌, ℕ, List, Option, Some, if◌then◌else◌, nat_lt, length, map, slice_get, take, drop}
use Rattle.coniks_proof.specs.Octets.{Octets}
use Rattle.coniks_chain.specs.Chain.{Follows}
use Rattle.coniks_client.specs.Changes.{expected}
use Rattle.coniks_client.specs.Feeding.{IsSignedAgain}
use Rattle.coniks_client.specs.StoredEntry.{IsChain, entry_in, epoch_in, latest_in, verified_before}
use Rattle.coniks_client.specs.Owner.{IsBacked, IsOwner, IsSame, IsShown, IsWatched, Scheme}
use Rattle.coniks_client.specs.Steps.{AreRenumbered, Marks, with_latest, with_one}
use Rattle.coniks_client.specs.declared.changes.Change.{Change}
use Rattle.coniks_client.specs.declared.stored.StoredEntry.{StoredEntry}
use Rattle.coniks_quorum.specs.Auditors.{AreAuditors, Auditor, Overlap}
use Rattle.coniks_quorum.specs.Laws.{IsWantedOrFork}
use Rattle.coniks_quorum.specs.Marks.{AreMarks, reaching, unmarked}

-- what a client dropped and what it keeps are one chain, and its marks are right of all of it
pub record IsClient (hash : Octets → Octets) (auditors : List Auditor) (dropped stored : List StoredEntry) (marks : List ℕ) : Type 0 where
  pub some : 0 < length stored
  pub chain : IsChain hash (dropped ++ stored)
  pub marked : AreMarks hash auditors (dropped ++ stored) marks

-- it stays so with an entry more
abbrev pub FeedLaw : Type 0
FeedLaw = (hash : Octets → Octets) (auditors : List Auditor) (dropped stored : List StoredEntry) (marks : List ℕ) (mine : StoredEntry)
    → IsClient hash auditors dropped stored marks → Follows verified_before (latest_in hash stored) (entry_in mine)
    → IsClient hash auditors dropped (with_one stored mine) marks

-- and when the latest entry is signed again, if the marks at its epoch become 0: they are of the signature before
abbrev pub AgainLaw : Type 0
AgainLaw = (hash : Octets → Octets) (auditors : List Auditor) (dropped stored : List StoredEntry) (marks : List ℕ) (latest mine : StoredEntry)
    → IsClient hash auditors dropped stored marks → IsSignedAgain stored latest (entry_in mine)
    → IsClient hash auditors dropped (with_latest stored mine) (map (unmarked (epoch_in latest)) marks)

-- and when older entries are dropped, whatever heads are known
abbrev pub CoverLaw : Type 0
CoverLaw = (hash : Octets → Octets) (auditors : List Auditor) (dropped stored : List StoredEntry) (marks : List ℕ) (n : ℕ)
    → IsClient hash auditors dropped stored marks → n < length stored → IsClient hash auditors (dropped ++ take n stored) (drop n stored) marks

-- and when the number of an epoch is changed, as a lookup does, or those of all, as when a name begins to be watched
abbrev pub LookLaw : Type 0
LookLaw = (hash : Octets → Octets) (auditors : List Auditor) (dropped old new : List StoredEntry) (marks : List ℕ) (place : ℕ) (was : StoredEntry) (number : Option ℕ)
    → IsClient hash auditors dropped old marks → slice_get old place ≡ Some was → Marks old new place number → IsClient hash auditors dropped new marks

abbrev pub BeginLaw : Type 0
BeginLaw = (hash : Octets → Octets) (auditors : List Auditor) (dropped old new : List StoredEntry) (marks : List ℕ) (number : StoredEntry → ℕ)
    → IsClient hash auditors dropped old marks → AreRenumbered number old new → IsClient hash auditors dropped new marks

-- each dropped epoch from the first watched one on showed what was expected of it when it was dropped; so none was missing
pub record IsAccounted (hash : Octets → Octets) (scheme : Scheme) (name : Octets) (past : ℕ → Option Octets) (first : ℕ) (dropped : List StoredEntry) : Type 0 where
  pub same : (k : ℕ) (mine : StoredEntry) → slice_get dropped k ≡ Some mine → first ≤ epoch_in mine → IsSame mine.seen
  pub backed : IsBacked hash scheme name past dropped

-- what an owner expects of all epochs: the past of the dropped ones, and what the changes expect from the oldest stored one on
abbrev pub timeline : (ℕ → Option Octets) → ℕ → Option Octets → List Change → ℕ → Option Octets
timeline past oldest key changes epoch = if nat_lt epoch oldest then past epoch else expected key changes epoch

-- the first n stored epochs may be dropped: the account goes on, with what was expected of them
abbrev pub AccountLaw : Type 0
AccountLaw = (hash : Octets → Octets) (scheme : Scheme) (name : Octets) (past : ℕ → Option Octets) (first : ℕ) (key : Option Octets) (changes : List Change)
    (dropped stored : List StoredEntry) (oldest : StoredEntry) (n : ℕ)
    → IsChain hash (dropped ++ stored) → slice_get stored 0 ≡ Some oldest
    → IsAccounted hash scheme name past first dropped → IsWatched hash scheme name key changes stored
    → ((k : ℕ) (mine : StoredEntry) → k < n → slice_get stored k ≡ Some mine → first ≤ epoch_in mine → IsSame mine.seen)
    → IsAccounted hash scheme name (timeline past (epoch_in oldest) key changes) first (dropped ++ take n stored)

-- what a client keeps from the first watched epoch on is same up to the last one: with what it dropped, it is an owner's chain
abbrev pub WholeLaw : Type 0
WholeLaw = (hash : Octets → Octets) (scheme : Scheme) (name : Octets) (past : ℕ → Option Octets) (first last : ℕ) (key : Option Octets) (changes : List Change)
    (dropped stored : List StoredEntry) (oldest : StoredEntry)
    → IsChain hash (dropped ++ stored) → slice_get stored 0 ≡ Some oldest
    → ((mine : StoredEntry) → slice_get (dropped ++ stored) 0 ≡ Some mine → epoch_in mine ≤ first)
    → IsAccounted hash scheme name past first dropped → IsWatched hash scheme name key changes stored
    → ((k : ℕ) (mine : StoredEntry) → slice_get stored k ≡ Some mine → first ≤ epoch_in mine → epoch_in mine ≤ last → IsSame mine.seen)
    → IsOwner hash scheme name (timeline past (epoch_in oldest) key changes) first last (dropped ++ stored)

-- Two clients dropped some of their first entries. Alice's client watched her name from one epoch to another, and a quorum
-- confirms the last one to her. Bob's client accepted a key for her name at one of these epochs, and a quorum confirms it to him.
-- Then it is the key that she expected of it; or an honest auditor's chain forks from one of theirs; or there are two answers or two
-- indices.
abbrev pub ClientsLaw : Type 0
ClientsLaw = (hash : Octets → Octets) (n f quorum_a quorum_b : ℕ) (auditors : List Auditor) (before_a alice before_b bob : List StoredEntry) (of_a of_b : List ℕ) (to_a to_b : ℕ)
    (scheme : Scheme) (name : Octets) (past : ℕ → Option Octets) (key : Option Octets) (changes : List Change) (first last place : ℕ) (oldest his : StoredEntry) (answer : Option Octets)
    → Overlap n f quorum_a quorum_b → AreAuditors hash n f auditors
    → IsClient hash auditors before_a alice of_a → quorum_a ≤ reaching of_a to_a
    → IsClient hash auditors before_b bob of_b → quorum_b ≤ reaching of_b to_b
    → slice_get alice 0 ≡ Some oldest → ((mine : StoredEntry) → slice_get (before_a ++ alice) 0 ≡ Some mine → epoch_in mine ≤ first)
    → IsAccounted hash scheme name past first before_a → IsWatched hash scheme name key changes alice
    → ((k : ℕ) (mine : StoredEntry) → slice_get alice k ≡ Some mine → first ≤ epoch_in mine → epoch_in mine ≤ last → IsSame mine.seen)
    → 0 < first → last ≤ to_a → epoch_in his ≤ to_b
    → slice_get (before_b ++ bob) place ≡ Some his → first ≤ epoch_in his → epoch_in his ≤ last
    → IsShown hash scheme (entry_in his) name answer
    → IsWantedOrFork hash scheme name auditors (before_a ++ alice) (before_b ++ bob) (entry_in his) answer (timeline past (epoch_in oldest) key changes (epoch_in his))
