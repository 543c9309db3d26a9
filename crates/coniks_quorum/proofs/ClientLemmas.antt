-- What a client keeps of what it accepted, and what it knows of the rest.
use Rattle.std.proofs.Common.{◌≡◌, ℕ, zero, suc, ◌+◌, ◌-◌, ◌<◌, ◌≤◌, ◌⊎◌, List, [], ◌∷◌, ◌++◌, length, length-append, length-drop, Bool, Option, Some, if◌then◌else◌, sym, ap, subst, ◌∙◌, inl, inr, ⊎_elim, arith, append_assoc, take, drop}
use Rattle.std.specs.List.{slice_get}
use Rattle.std.specs.Option.{option_map}
use Rattle.std.proofs.lemmas.Bool.{cases_lt, le-ltb, lt-ltb}
use Rattle.std.proofs.lemmas.List.{take-append-drop}
use Rattle.std.proofs.lemmas.Option.{slice_get_within, same_Some}
use Rattle.coniks_chain.specs.Chain.{Follows, auditor_after}
use Rattle.coniks_chain.specs.declared.auditor.AuditorState.{AuditorState}
use Rattle.coniks_client.specs.Changes.{expected}
use Rattle.coniks_client.specs.StoredEntry.{IsChain, entries_in, entry_in, epoch_in, latest_in, verified_before}
use Rattle.coniks_client.specs.Owner.{IsBacked, IsShown, Scheme}
use Rattle.coniks_client.specs.Steps.{with_one}
use Rattle.coniks_client.specs.declared.changes.Change.{Change}
use Rattle.coniks_client.specs.declared.stored.StoredEntry.{StoredEntry}
use Rattle.coniks_client.proofs.Lemmas.{chain-push, entry_at, increasing, linked_of}
use Rattle.coniks_quorum.specs.Clients.{AccountLaw, ClientsLaw, CoverLaw, FeedLaw, WholeLaw, timeline}
use Rattle.coniks_quorum.specs.Marks.{AreMarks}
use Rattle.coniks_quorum.proofs.ListLemmas.{get-append_left, get-append_right, of_take, take-within}
use Rattle.coniks_quorum.proofs.QuorumLemmas.{grow, owner}

-- an element of two lists in a row is one of the first or of the second
pub either : {X : Type 0} (xs ys : List X) (k : ℕ) (x : X) → slice_get (xs ++ ys) k ≡ Some x
    → (slice_get xs k ≡ Some x) ⊎ ((j : ℕ) × (slice_get ys j ≡ Some x) × (k ≡ length xs + j))
either xs ys k x at = ⊎_elim
    (λ (less : k < length xs). inl (sym (get-append_left xs ys k less) ∙ at))
    (λ (le : length xs ≤ k).
    let rest = k - length xs in
    let place : k ≡ length xs + rest = omega arith in
    inr (rest, sym (get-append_right xs ys rest) ∙ ap (slice_get (xs ++ ys)) (sym place) ∙ at, place))
    (cases_lt k (length xs))

-- what the next entry is compared with is the last stored one, whatever was dropped
latest : (hash : List ℕ → List ℕ) (dropped stored : List StoredEntry) → 0 < length stored → latest_in hash stored ≡ latest_in hash (dropped ++ stored)
latest hash dropped stored some =
    let size = length-append dropped stored in
    let place : length dropped + (length stored - 1) ≡ length (dropped ++ stored) - 1 = omega arith in
    let last : slice_get stored (length stored - 1) ≡ slice_get (dropped ++ stored) (length (dropped ++ stored) - 1) =
    sym (get-append_right dropped stored (length stored - 1)) ∙ ap (slice_get (dropped ++ stored)) place in
    ap (option_map (λ (m : StoredEntry). auditor_after hash (entry_in m))) last

pub feed : FeedLaw
feed hash auditors dropped stored marks mine is follows =
    let next = subst (λ (b : Option AuditorState). Follows verified_before b (entry_in mine)) (latest hash dropped stored is.some) follows in
    let all : with_one (dropped ++ stored) mine ≡ dropped ++ with_one stored mine = append_assoc dropped stored (mine ∷ []) in
    let size = length-append stored (mine ∷ []) in
    let had = is.some in
    record {
      some = omega arith;
      chain = subst (λ (l : List StoredEntry). IsChain hash l) all (chain-push hash (dropped ++ stored) mine is.chain next);
      marked = subst (λ (l : List StoredEntry). AreMarks hash auditors l marks) all (grow hash auditors (dropped ++ stored) (mine ∷ []) marks is.marked);
    }

-- older entries move from what is stored to what was dropped
moved : (dropped stored : List StoredEntry) (n : ℕ) → dropped ++ stored ≡ (dropped ++ take n stored) ++ drop n stored
moved dropped stored n = ap (λ (l : List StoredEntry). dropped ++ l) (sym (take-append-drop n stored)) ∙ sym (append_assoc dropped (take n stored) (drop n stored))

pub cover : CoverLaw
cover hash auditors dropped stored marks n is less =
    let size = length-drop n stored in
    record {
      some = omega arith;
      chain = subst (λ (l : List StoredEntry). IsChain hash l) (moved dropped stored n) is.chain;
      marked = subst (λ (l : List StoredEntry). AreMarks hash auditors l marks) (moved dropped stored n) is.marked;
    }

module _ (past : ℕ → Option (List ℕ)) (oldest : ℕ) (key : Option (List ℕ)) (changes : List Change) (epoch : ℕ) where
  timeline-past : epoch < oldest → past epoch ≡ timeline past oldest key changes epoch
  timeline-past less = sym (ap (λ (b : Bool). if b then past epoch else expected key changes epoch) (lt-ltb epoch oldest less))

  timeline-now : oldest ≤ epoch → expected key changes epoch ≡ timeline past oldest key changes epoch
  timeline-now le = sym (ap (λ (b : Bool). if b then past epoch else expected key changes epoch) (le-ltb epoch oldest le))

module _ (hash : List ℕ → List ℕ) (dropped stored : List StoredEntry) (oldest : StoredEntry) (chain : IsChain hash (dropped ++ stored)) (first : slice_get stored 0 ≡ Some oldest) where
  abbrev pub all : List StoredEntry
  all = dropped ++ stored

  there : (k : ℕ) (mine : StoredEntry) → slice_get stored k ≡ Some mine → slice_get all (length dropped + k) ≡ Some mine
  there k mine at = get-append_right dropped stored k ∙ at

  -- dropped epochs are earlier than the oldest stored one
  pub earlier : (k : ℕ) (mine : StoredEntry) → slice_get dropped k ≡ Some mine → epoch_in mine < epoch_in oldest
  earlier k mine at =
      let within = slice_get_within dropped k mine at in
      let at_k : slice_get all k ≡ Some mine = get-append_left dropped stored k within ∙ at in
      increasing hash (entries_in all) (linked_of hash all chain) k (length dropped + 0) (entry_in mine) (entry_in oldest)
      (entry_at all k mine at_k) (entry_at all (length dropped + 0) oldest (there 0 oldest first)) (omega arith)

  -- and no stored one is
  pub no_earlier : (k : ℕ) (mine : StoredEntry) → slice_get stored k ≡ Some mine → epoch_in oldest ≤ epoch_in mine
  no_earlier zero mine at = let same : epoch_in oldest ≡ epoch_in mine = ap epoch_in (same_Some oldest mine (sym first ∙ at)) in omega arith
  no_earlier (suc k) mine at =
      let later = increasing hash (entries_in all) (linked_of hash all chain) (length dropped + 0) (length dropped + suc k) (entry_in oldest) (entry_in mine)
      (entry_at all (length dropped + 0) oldest (there 0 oldest first)) (entry_at all (length dropped + suc k) mine (there (suc k) mine at)) (omega arith) in
      omega arith

  -- some stored epochs, after the dropped ones, show what the timeline says
  backed-all : (scheme : Scheme) (name : List ℕ) (past : ℕ → Option (List ℕ)) (key : Option (List ℕ)) (changes : List Change) (part : List StoredEntry)
      → ((k : ℕ) (mine : StoredEntry) → slice_get part k ≡ Some mine → (j : ℕ) × (slice_get stored j ≡ Some mine))
      → IsBacked hash scheme name past dropped → IsBacked hash scheme name (expected key changes) stored
      → IsBacked hash scheme name (timeline past (epoch_in oldest) key changes) (dropped ++ part)
  backed-all scheme name past key changes part within before now = λ k mine at same. ⊎_elim
      (λ (at_d : slice_get dropped k ≡ Some mine).
      subst (λ (a : Option (List ℕ)). IsShown hash scheme (entry_in mine) name a) (timeline-past past (epoch_in oldest) key changes (epoch_in mine) (earlier k mine at_d)) (before k mine at_d same))
      (λ (found : (j : ℕ) × (slice_get part j ≡ Some mine) × (k ≡ length dropped + j)).
      let at_k = within found.0 mine found.1 in
      subst (λ (a : Option (List ℕ)). IsShown hash scheme (entry_in mine) name a) (timeline-now past (epoch_in oldest) key changes (epoch_in mine) (no_earlier at_k.0 mine at_k.1)) (now at_k.0 mine at_k.1 same))
      (either dropped part k mine at)

pub account : AccountLaw
account hash scheme name past first key changes dropped stored oldest n chain at_0 reported watched upto = record {
  same = λ k mine at from. ⊎_elim
      (λ (at_d : slice_get dropped k ≡ Some mine). reported.same k mine at_d from)
      (λ (found : (j : ℕ) × (slice_get (take n stored) j ≡ Some mine) × (k ≡ length dropped + j)).
      upto found.0 mine (take-within stored n found.0 mine found.1) (of_take stored n found.0 mine found.1) from)
      (either dropped (take n stored) k mine at);
  backed = backed-all hash dropped stored oldest chain at_0 scheme name past key changes (take n stored) (λ k mine at. (k, of_take stored n k mine at)) reported.backed watched.backed;
}

pub whole : WholeLaw
whole hash scheme name past first last key changes dropped stored oldest chain at_0 begins reported watched upto = record {
  chain = chain;
  begins = begins;
  same = λ k mine at from to. ⊎_elim
      (λ (at_d : slice_get dropped k ≡ Some mine). reported.same k mine at_d from)
      (λ (found : (j : ℕ) × (slice_get stored j ≡ Some mine) × (k ≡ length dropped + j)). upto found.0 mine found.1 from to)
      (either dropped stored k mine at);
  backed = backed-all hash dropped stored oldest chain at_0 scheme name past key changes stored (λ k mine at. (k, at)) reported.backed watched.backed;
}

pub clients : ClientsLaw
clients hash n f k l auditors before_a alice before_b bob of_a of_b to_a to_b scheme name past key changes first last at oldest his answer enough are a many_a b many_b at_0 begins reported watched upto above le_a le_b there from to shown =
    owner hash n f k l auditors (before_a ++ alice) (before_b ++ bob) of_a of_b to_a to_b scheme name (timeline past (epoch_in oldest) key changes) first last at his answer enough are
    (record { marked = a.marked; above = omega arith; enough = many_a }) (record { marked = b.marked; above = omega arith; enough = many_b })
    (whole hash scheme name past first last key changes before_a alice oldest a.chain at_0 begins reported watched upto) le_a b.chain there le_b above from to shown
