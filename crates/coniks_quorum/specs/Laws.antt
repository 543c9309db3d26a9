-- What two clients who each have a quorum know of one another.
use Rattle.std.specs.Prelude.{◌≡◌, ◌≢◌, ◌⊎◌, ◌<◌, ◌≤◌, ◌++◌, ℕ, List, [], ◌∷◌, Bool, true, Option, Some, ◌&&◌, length, count_by, slice_get, take, drop, zip}
use Rattle.coniks_proof.specs.Octets.{Octets}
use Rattle.coniks_proof.specs.declared.values.Head.{Head}
use Rattle.coniks_chain.specs.Chain.{GoodChain}
use Rattle.coniks_chain.specs.Entries.{link_preimage}
use Rattle.coniks_chain.specs.Fork.{IsFork}
use Rattle.coniks_chain.specs.declared.entry.Entry.{Entry}
use Rattle.coniks_client.specs.Changes.{expected}
use Rattle.coniks_client.specs.Comparing.{HasHead}
use Rattle.coniks_client.specs.StoredEntry.{IsChain, entries_in, entry_in, epoch_in, verified_before}
use Rattle.coniks_client.specs.Owner.{IsOwner, IsShown, IsWatcher, Scheme, TwoAnswers, TwoIndices}
use Rattle.coniks_client.specs.declared.changes.Change.{Change}
use Rattle.coniks_client.specs.declared.stored.StoredEntry.{StoredEntry}
use Rattle.coniks_quorum.specs.Auditors.{AreAuditors, Auditor, HasEntry, IsGood, IsQuorum, Overlap, WasCosigned}
use Rattle.coniks_quorum.specs.Marks.{AreMarks, IsConfirmed, marks_of, reaching}

-- the number of places that are true in both lists
abbrev pub shared : List Bool → List Bool → ℕ
shared xs ys = count_by (λ p. p.0 && p.1) (zip xs ys)

-- two quorums of n auditors share more than f
abbrev pub SharedLaw : Type 0
SharedLaw = (n f quorum : ℕ) (xs ys : List Bool) → IsQuorum n f quorum → length xs ≡ n → length ys ≡ n
    → quorum ≤ count_by (λ x. x) xs → quorum ≤ count_by (λ y. y) ys → f < shared xs ys

-- a client's chain and an auditor's have one head, at this epoch or later
pub record StandsOn (hash : Octets → Octets) (auditor : Auditor) (accepted : List StoredEntry) (epoch : ℕ) : Type 0 where
  pub head : Head
  pub place : ℕ
  pub mine : StoredEntry
  pub there : slice_get accepted place ≡ Some mine
  pub has : HasHead hash mine head
  pub late : epoch ≤ head.epoch
  pub entry : HasEntry hash auditor.entries head

-- one honest auditor has a head of each client
pub record IsShared (hash : Octets → Octets) (auditors : List Auditor) (alice bob : List StoredEntry) (to_a to_b : ℕ) : Type 0 where
  pub place : ℕ
  pub auditor : Auditor
  pub there : slice_get auditors place ≡ Some auditor
  pub honest : auditor.honest ≡ true
  pub good : IsGood hash auditor
  pub hers : StandsOn hash auditor alice to_a
  pub his : StandsOn hash auditor bob to_b

-- two clients under the same auditors, each confirmed up to an epoch, share an honest auditor; a client has the mark 0 of
-- an auditor that it does not ask
abbrev pub QuorumLaw : Type 0
QuorumLaw = (hash : Octets → Octets) (n f quorum_a quorum_b : ℕ) (auditors : List Auditor) (alice bob : List StoredEntry) (of_a of_b : List ℕ) (to_a to_b : ℕ)
    → Overlap n f quorum_a quorum_b → AreAuditors hash n f auditors
    → IsConfirmed hash auditors alice of_a quorum_a to_a → IsConfirmed hash auditors bob of_b quorum_b to_b
    → IsShared hash auditors alice bob to_a to_b

-- up to two entries of one link, the lists differ: two byte strings with one hash
abbrev pub Forks : (Octets → Octets) → List Entry → List Entry → Type 0
Forks hash xs ys = (n : ℕ) × (m : ℕ) × (e : Entry) × (f : Entry) × IsFork hash (take n xs) (take m ys) e f

-- each entry of a client's chain up to the confirmed epoch is one of the auditor's
abbrev pub PlaceLaw : Type 0
PlaceLaw = (hash : Octets → Octets) (auditor : Auditor) (accepted : List StoredEntry) (epoch place : ℕ) (mine : StoredEntry)
    → IsGood hash auditor → IsChain hash accepted → StandsOn hash auditor accepted epoch
    → slice_get accepted place ≡ Some mine → 0 < epoch_in mine → epoch_in mine ≤ epoch
    → ((p : ℕ) × (slice_get auditor.entries p ≡ Some (entry_in mine))) ⊎ Forks hash auditor.entries (entries_in accepted)

-- an honest auditor's chain forks from one of the two
abbrev pub EitherForks : (Octets → Octets) → List Auditor → List StoredEntry → List StoredEntry → Type 0
EitherForks hash auditors alice bob = (i : ℕ) × (auditor : Auditor) × (slice_get auditors i ≡ Some auditor) × (auditor.honest ≡ true)
    × (Forks hash (entries_in alice) auditor.entries ⊎ Forks hash auditor.entries (entries_in bob))

-- an entry of Bob's chain that both quorums confirm, and that is not before Alice's first, is one of Alice's
abbrev pub AgreeLaw : Type 0
AgreeLaw = (hash : Octets → Octets) (n f quorum_a quorum_b : ℕ) (auditors : List Auditor) (alice bob : List StoredEntry) (of_a of_b : List ℕ) (to_a to_b place : ℕ) (his : StoredEntry)
    → Overlap n f quorum_a quorum_b → AreAuditors hash n f auditors
    → IsConfirmed hash auditors alice of_a quorum_a to_a → IsConfirmed hash auditors bob of_b quorum_b to_b
    → IsChain hash alice → IsChain hash bob
    → slice_get bob place ≡ Some his → 0 < epoch_in his → epoch_in his ≤ to_a → epoch_in his ≤ to_b
    → ((mine : StoredEntry) → slice_get alice 0 ≡ Some mine → epoch_in mine ≤ epoch_in his)
    → ((p : ℕ) × (hers : StoredEntry) × (slice_get alice p ≡ Some hers) × (entry_in hers ≡ entry_in his)) ⊎ EitherForks hash auditors alice bob

-- an answer for a name under an entry of Bob's chain is a given one; or an honest auditor's chain forks from Alice's or Bob's; or
-- two accepted proofs give two answers; or two VRF proofs give the name two indices
abbrev pub IsWantedOrFork : (Octets → Octets) → Scheme → Octets → List Auditor → List StoredEntry → List StoredEntry → Entry → Option Octets → Option Octets → Type 0
IsWantedOrFork hash scheme name auditors alice bob entry answer wanted =
    (answer ≡ wanted) ⊎ EitherForks hash auditors alice bob ⊎ TwoAnswers hash entry name ⊎ TwoIndices scheme name

-- Alice's client watched her name up to an epoch that a quorum confirms to her. Bob's client accepted a key for it at an epoch
-- that a quorum confirms to him. Then it is the key that she expected, or there are two byte strings with one hash, or two VRF
-- proofs give the name two indices. The clients need not know of each other, nor have a head in common.
abbrev pub OwnerQuorumLaw : Type 0
OwnerQuorumLaw = (hash : Octets → Octets) (n f quorum_a quorum_b : ℕ) (auditors : List Auditor) (alice bob : List StoredEntry) (of_a of_b : List ℕ) (to_a to_b : ℕ)
    (scheme : Scheme) (name : Octets) (wanted : ℕ → Option Octets) (first last place : ℕ) (his : StoredEntry) (answer : Option Octets)
    → Overlap n f quorum_a quorum_b → AreAuditors hash n f auditors
    → IsConfirmed hash auditors alice of_a quorum_a to_a → IsConfirmed hash auditors bob of_b quorum_b to_b
    → IsOwner hash scheme name wanted first last alice → last ≤ to_a
    → IsChain hash bob → slice_get bob place ≡ Some his → epoch_in his ≤ to_b
    → 0 < first → first ≤ epoch_in his → epoch_in his ≤ last
    → IsShown hash scheme (entry_in his) name answer
    → IsWantedOrFork hash scheme name auditors alice bob (entry_in his) answer (wanted (epoch_in his))

-- the same for a state that has the key and the changes: they say what she expects
abbrev pub WatcherQuorumLaw : Type 0
WatcherQuorumLaw = (hash : Octets → Octets) (n f quorum_a quorum_b : ℕ) (auditors : List Auditor) (alice bob : List StoredEntry) (of_a of_b : List ℕ) (to_a to_b : ℕ)
    (scheme : Scheme) (name : Octets) (key : Option Octets) (changes : List Change) (first last place : ℕ) (his : StoredEntry) (answer : Option Octets)
    → Overlap n f quorum_a quorum_b → AreAuditors hash n f auditors
    → IsConfirmed hash auditors alice of_a quorum_a to_a → IsConfirmed hash auditors bob of_b quorum_b to_b
    → IsWatcher hash scheme name key changes first last alice → last ≤ to_a
    → IsChain hash bob → slice_get bob place ≡ Some his → epoch_in his ≤ to_b
    → 0 < first → first ≤ epoch_in his → epoch_in his ≤ last
    → IsShown hash scheme (entry_in his) name answer
    → IsWantedOrFork hash scheme name auditors alice bob (entry_in his) answer (expected key changes (epoch_in his))

-- marks hold of a chain that has grown
abbrev pub GrowLaw : Type 0
GrowLaw = (hash : Octets → Octets) (auditors : List Auditor) (accepted later : List StoredEntry) (marks : List ℕ)
    → AreMarks hash auditors accepted marks → AreMarks hash auditors (accepted ++ later) marks

-- marks that hold of what was left after older entries were dropped hold of all
abbrev pub LeftLaw : Type 0
LeftLaw = (hash : Octets → Octets) (auditors : List Auditor) (dropped stored : List StoredEntry) (marks : List ℕ)
    → AreMarks hash auditors stored marks → AreMarks hash auditors (dropped ++ stored) marks

-- heads that the auditors cosigned, at most one for each, give right marks
abbrev pub HeadsLaw : Type 0
HeadsLaw = (hash : Octets → Octets) (auditors : List Auditor) (stored : List StoredEntry) (heads : List (Option Head))
    → length heads ≡ length auditors → ((i : ℕ) (head : Head) → slice_get heads i ≡ Some (Some head) → WasCosigned auditors i head)
    → AreMarks hash auditors stored (marks_of hash stored heads)

-- if entries before one at or before an epoch are dropped, as many heads confirm that epoch as before
abbrev pub CutLaw : Type 0
CutLaw = (hash : Octets → Octets) (stored : List StoredEntry) (heads : List (Option Head)) (n : ℕ) (mine : StoredEntry) (epoch : ℕ)
    → IsChain hash stored → slice_get stored n ≡ Some mine → epoch_in mine ≤ epoch → 0 < epoch
    → reaching (marks_of hash (drop n stored) heads) epoch ≡ reaching (marks_of hash stored heads) epoch

-- the premises can be met: an honest auditor alone confirms each good chain of one entry
abbrev pub WitnessLaw : Type 0
WitnessLaw = (hash : Octets → Octets) (a : StoredEntry) → GoodChain hash verified_before (entries_in (a ∷ []))
    → (auditors : List Auditor) × (marks : List ℕ) × Overlap 1 0 1 1 × AreAuditors hash 1 0 auditors × IsConfirmed hash auditors (a ∷ []) marks 1 (epoch_in a)

-- one auditor less is too few: one of three lies, two confirm one chain to Alice and two another chain to Bob, and no honest auditor
-- has both
abbrev pub TightLaw : Type 0
TightLaw = (hash : Octets → Octets) (a b : StoredEntry)
    → GoodChain hash verified_before (entries_in (a ∷ [])) → GoodChain hash verified_before (entries_in (b ∷ []))
    → hash (link_preimage (entry_in a)) ≢ hash (link_preimage (entry_in b))
    → (auditors : List Auditor) × (of_a : List ℕ) × (of_b : List ℕ) × AreAuditors hash 3 1 auditors
    × IsConfirmed hash auditors (a ∷ []) of_a 2 (epoch_in a) × IsConfirmed hash auditors (b ∷ []) of_b 2 (epoch_in b)
    × (¬ IsShared hash auditors (a ∷ []) (b ∷ []) (epoch_in a) (epoch_in b))
