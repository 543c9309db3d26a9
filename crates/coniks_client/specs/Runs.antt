-- The states that a client's calls lead to.
use Rattle.std.specs.Prelude.{◌≡◌, ◌⊎◌, ◌≤◌, ◌-◌, ℕ, List, [], Option, Some, drop, length, slice_get}
use Rattle.std.specs.Borrow.{Bor}
use Rattle.coniks_proof.specs.Octets.{Octets}
use Rattle.coniks_chain.specs.Chain.{Follows}
use Rattle.coniks_chain.specs.Fork.{EndsWith}
use Rattle.coniks_client.specs.Changes.{begun, expected, wanted, with_change}
use Rattle.coniks_client.specs.Expecting.{MayExpect}
use Rattle.coniks_client.specs.Feeding.{IsSignedAgain}
use Rattle.coniks_client.specs.StoredEntry.{IsChain, entries_in, entry_in, epoch_in, latest_in, verified_before}
use Rattle.coniks_client.specs.Owner.{Fork, IsSame, IsShown, Scheme, TwoAnswers, TwoIndices}
use Rattle.coniks_client.specs.Steps.{AreRenumbered, Marks, given_changes, given_number, new_number, unseen_number, with_latest, with_one}
use Rattle.coniks_client.specs.declared.changes.Change.{Change}
use Rattle.coniks_client.specs.declared.stored.StoredEntry.{StoredEntry}
use Rattle.coniks_client.specs.declared.watching.Watch.{Watch}

-- calls on a client that watches a name, from `begin_watch` on, each by its contract: the key before the changes, the changes and
-- the stored epochs that they lead to
pub data Run (hash : Octets → Octets) (scheme : Scheme) (name : Octets) : Option Octets → List Change → List StoredEntry → Type 0 where
  begins : (key : Option Octets) (watch : Watch) (old new : List StoredEntry) → IsChain hash old → AreRenumbered (unseen_number watch) old new → Run hash scheme name key [] new
  feeds : (key : Option Octets) (changes : List Change) (stored : List StoredEntry) (watch : Option Watch) (mine : StoredEntry) → Run hash scheme name key changes stored
      → Follows verified_before (latest_in hash stored) (entry_in mine) → mine.seen ≡ new_number watch (epoch_in mine) → Run hash scheme name key changes (with_one stored mine)
  -- the latest entry, signed again
  feeds_again : (key : Option Octets) (changes : List Change) (stored : List StoredEntry) (latest mine : StoredEntry) → Run hash scheme name key changes stored
      → IsSignedAgain stored latest (entry_in mine) → mine.seen ≡ latest.seen → Run hash scheme name key changes (with_latest stored mine)
  -- of any name; only the watched one is marked
  looks_up : (watch : Watch) (changes : List Change) (old new : List StoredEntry) (place : ℕ) (was : StoredEntry) (requested : Octets) (answer : Option Octets) (number : Option ℕ)
      → Run hash scheme name (wanted watch.key.now) changes old → name ≡ watch.name.now → slice_get old place ≡ Some was → IsShown hash scheme (entry_in was) requested answer
      → number ≡ given_number (Some watch) changes requested (epoch_in was) answer → Marks old new place number
      → Run hash scheme name (wanted watch.key.now) (given_changes (Some watch) changes requested (epoch_in was) answer) new
  expects : (key : Option Octets) (changes : List Change) (stored : List StoredEntry) (latest : StoredEntry) (new : Bor Octets) (by : ℕ) → Run hash scheme name key changes stored
      → slice_get stored (length stored - 1) ≡ Some latest → MayExpect key changes (epoch_in latest) (wanted new.now) by
      → Run hash scheme name key (with_change changes (record { last_old = epoch_in latest; first_new = by; key = new })) stored
  settles : (key : Option Octets) (changes : List Change) (stored : List StoredEntry) (oldest : StoredEntry) → Run hash scheme name key changes stored
      → slice_get stored 0 ≡ Some oldest → Run hash scheme name (expected key changes (epoch_in oldest)) (drop (begun changes (epoch_in oldest)) changes) stored
  covers : (key : Option Octets) (changes : List Change) (stored : List StoredEntry) (n : ℕ) → Run hash scheme name key changes stored → Run hash scheme name key changes (drop n stored)

-- Alice's client came to its state by these calls. No stored epoch from one to another is missing or was seen as changed. Bob's chain ends
-- in the same head, and in one of these epochs his client accepted a key for her name. Then it is the key that her state expects there;
-- or the chains, or two proofs, contain two byte strings with one hash; or two VRF proofs give the name two indices.
abbrev pub OwnerRunLaw : Type 0
OwnerRunLaw = (hash : Octets → Octets) (scheme : Scheme) (name : Octets) (key : Option Octets) (changes : List Change) (first last : ℕ)
    (alice bob : List StoredEntry) (oldest : StoredEntry) (head : Octets) (place : ℕ) (his : StoredEntry) (answer : Option Octets)
    → Run hash scheme name key changes alice → slice_get alice 0 ≡ Some oldest → epoch_in oldest ≤ first
    → ((k : ℕ) (mine : StoredEntry) → slice_get alice k ≡ Some mine → first ≤ epoch_in mine → epoch_in mine ≤ last → IsSame mine.seen)
    → EndsWith hash (entries_in alice) head → IsChain hash bob → EndsWith hash (entries_in bob) head
    → slice_get bob place ≡ Some his → first ≤ epoch_in his → epoch_in his ≤ last
    → IsShown hash scheme (entry_in his) name answer
    → (answer ≡ expected key changes (epoch_in his)) ⊎ Fork hash alice bob ⊎ TwoAnswers hash (entry_in his) name ⊎ TwoIndices scheme name
