-- What the latest entry, signed again, keeps in the place of the latest stored epoch.
use Rattle.std.proofs.Common.{◌≡◌, ◌≢◌, ℕ, zero, suc, ◌-◌, ◌<◌, ◌≤◌, List, [], ◌∷◌, length, set, Option, Some, refl, sym, ap, subst, ◌∙◌, ◌⊎◌, inl, inr, ⊎_elim, arith, get_or}
use Rattle.std.specs.List.{slice_get}
use Rattle.std.specs.Option.{option_map}
use Rattle.std.proofs.lemmas.List.{length-set}
use Rattle.std.proofs.lemmas.Option.{slice_get_within, slice_get-get_or, same_Some}
use Rattle.std.proofs.lemmas.Bool.{cases_lt}
use Rattle.coniks_chain.specs.Chain.{Follows, auditor_after}
use Rattle.coniks_chain.specs.Evidence.{Convicts, IsWellFormed}
use Rattle.coniks_chain.specs.declared.auditor.AuditFault.TheVariants.{NotLater, PreviousEpoch}
use Rattle.coniks_chain.specs.declared.auditor.AuditorState.{AuditorState}
use Rattle.coniks_chain.specs.declared.entry.Body.{Body}
use Rattle.coniks_chain.specs.declared.entry.Entry.{Entry}
use Rattle.coniks_chain.specs.declared.evidence.EvidenceKind.{EvidenceKind}
use Rattle.coniks_chain.specs.declared.evidence.EvidenceKind.TheVariants.{Overlap, OtherPolicy, Malformed}
use Rattle.coniks_chain.proofs.Lemmas.{row}
use Rattle.coniks_client.specs.Changes.{IsDecided, expected}
use Rattle.coniks_client.specs.Feeding.{IsOwn, IsSignedAgain}
use Rattle.coniks_client.specs.StoredEntry.{IsChain, entries_in, entry_in, epoch_in, latest_in, verified_before}
use Rattle.coniks_client.specs.Owner.{IsBacked, IsSame, IsShown, IsWatched, Scheme}
use Rattle.coniks_client.specs.Steps.{GoesOnLaw, NoEvidenceLaw, NotNextLaw, ShownAgainLaw, with_latest}
use Rattle.coniks_client.specs.declared.changes.Change.{Change}
use Rattle.coniks_client.specs.declared.stored.StoredEntry.{StoredEntry}
use Rattle.coniks_client.proofs.OwnerLemmas.{decide_ℕ, entry_at, increasing, linked_of}

get-set_here : (stored : List StoredEntry) (i : ℕ) (mine : StoredEntry) → i < length stored → slice_get (set stored i mine) i ≡ Some mine
get-set_here [] i mine less = absurd (omega arith)
get-set_here (x ∷ stored) zero mine less = refl
get-set_here (x ∷ stored) (suc i) mine less = get-set_here stored i mine (omega arith)

pub get-set_other : (stored : List StoredEntry) (i k : ℕ) (mine : StoredEntry) → k ≢ i → slice_get (set stored i mine) k ≡ slice_get stored k
get-set_other [] i k mine apart = refl
get-set_other (x ∷ stored) zero zero mine apart = absurd (apart refl)
get-set_other (x ∷ stored) zero (suc k) mine apart = refl
get-set_other (x ∷ stored) (suc i) zero mine apart = refl
get-set_other (x ∷ stored) (suc i) (suc k) mine apart = get-set_other stored i k mine (λ same. apart (ap (λ (n : ℕ). suc n) same))

-- entries of one body follow the same one
pub same-follows : (before : Option AuditorState) (e f : Entry) → e.body ≡ f.body → Follows verified_before before e → Follows verified_before before f
same-follows before e f same follows =
    let by_body = subst (λ (b : Body). Follows verified_before before (record { body = b; signature = e.signature })) same follows in
    record { rows = by_body.rows }

-- and what was shown under one was shown under the other
pub same-shown : (hash : List ℕ → List ℕ) (scheme : Scheme) (name : List ℕ) (expected : ℕ → Option (List ℕ)) (e f : Entry) → e.body ≡ f.body
    → IsShown hash scheme e name (expected e.body.t) → IsShown hash scheme f name (expected f.body.t)
same-shown hash scheme name expected e f same shown =
    let by_body = subst (λ (b : Body). IsShown hash scheme (record { body = b; signature = e.signature }) name (expected b.t)) same shown in
    record { vrf = by_body.vrf; index = by_body.index; proof = by_body.proof; indexed = by_body.indexed; accepted = by_body.accepted }

module _ (stored : List StoredEntry) (latest mine : StoredEntry) (again : IsSignedAgain stored latest (entry_in mine)) where
  abbrev pub last : ℕ
  last = length stored - 1

  -- a stored epoch is an old one, or the new one in the place of the latest
  pub which_latest : (k : ℕ) (x : StoredEntry) → slice_get (with_latest stored mine) k ≡ Some x → ((k ≢ last) × (slice_get stored k ≡ Some x)) ⊎ ((k ≡ last) × (mine ≡ x))
  which_latest k x at = ⊎_elim
      (λ (here : k ≡ last).
      let within = slice_get_within stored last latest again.there in
      inr (here, same_Some mine x (sym (get-set_here stored last mine within) ∙ ap (slice_get (with_latest stored mine)) (sym here) ∙ at)))
      (λ (apart : k ≢ last). inl (apart, sym (get-set_other stored last k mine apart) ∙ at))
      (decide_ℕ k last)

  -- the next entry is compared with the new one
  pub again-latest : (hash : List ℕ → List ℕ) → latest_in hash (with_latest stored mine) ≡ Some (auditor_after hash (entry_in mine))
  again-latest hash =
      let within = slice_get_within stored last latest again.there in
      let place : length (with_latest stored mine) - 1 ≡ last = ap (λ (n : ℕ). n - 1) (length-set stored last mine) in
      ap (λ (o : Option StoredEntry). option_map (λ (m : StoredEntry). auditor_after hash (entry_in m)) o)
      (ap (slice_get (with_latest stored mine)) place ∙ get-set_here stored last mine within)

  pub again-chain : (hash : List ℕ → List ℕ) → IsChain hash stored → IsChain hash (with_latest stored mine)
  again-chain hash chain = λ k before x at_b at_x.
      let within = slice_get_within (with_latest stored mine) (suc k) x at_x in
      let size = length-set stored last mine in
      let earlier : k ≢ last = λ same. omega arith in
      let old_b : slice_get stored k ≡ Some before = sym (get-set_other stored last k mine earlier) ∙ at_b in
      ⊎_elim
      (λ (old : (suc k ≢ last) × (slice_get stored (suc k) ≡ Some x)). chain k before x old_b old.1)
      (λ (new : (suc k ≡ last) × (mine ≡ x)).
      subst (λ (y : StoredEntry). Follows verified_before (Some (auditor_after hash (entry_in before))) (entry_in y)) new.1
      (same-follows (Some (auditor_after hash (entry_in before))) (entry_in latest) (entry_in mine) (sym again.body)
      (chain k before latest old_b (ap (slice_get stored) new.0 ∙ again.there))))
      (which_latest (suc k) x at_x)

  module _ (number : mine.seen ≡ latest.seen) where
    was-same : (x : StoredEntry) → mine ≡ x → IsSame x.seen → IsSame latest.seen
    was-same x is same = sym number ∙ subst (λ (y : StoredEntry). IsSame y.seen) (sym is) same

    pub again-backed : (hash : List ℕ → List ℕ) (scheme : Scheme) (name : List ℕ) (expected : ℕ → Option (List ℕ))
        → IsBacked hash scheme name expected stored → IsBacked hash scheme name expected (with_latest stored mine)
    again-backed hash scheme name expected backed = λ k x at same. ⊎_elim
        (λ (old : (k ≢ last) × (slice_get stored k ≡ Some x)). backed k x old.1 same)
        (λ (new : (k ≡ last) × (mine ≡ x)).
        subst (λ (y : StoredEntry). IsShown hash scheme (entry_in y) name (expected (epoch_in y))) new.1
        (same-shown hash scheme name expected (entry_in latest) (entry_in mine) (sym again.body)
        (backed last latest again.there (was-same x new.1 same))))
        (which_latest k x at)

    pub again-watched : (hash : List ℕ → List ℕ) (scheme : Scheme) (name : List ℕ) (key : Option (List ℕ)) (changes : List Change)
        → IsWatched hash scheme name key changes stored → IsWatched hash scheme name key changes (with_latest stored mine)
    again-watched hash scheme name key changes watched = record {
      order = watched.order;
      decided = λ k x at same. ⊎_elim
          (λ (old : (k ≢ last) × (slice_get stored k ≡ Some x)). watched.decided k x old.1 same)
          (λ (new : (k ≡ last) × (mine ≡ x)).
          subst (λ (y : StoredEntry). IsDecided changes (epoch_in y)) new.1
          (subst (λ (b : Body). IsDecided changes b.t) (sym again.body) (watched.decided last latest again.there (was-same x new.1 same))))
          (which_latest k x at);
      backed = again-backed hash scheme name (expected key changes) watched.backed;
    }

-- the laws of an entry that is signed again
latest-is : (hash : List ℕ → List ℕ) (stored : List StoredEntry) (latest : StoredEntry) → slice_get stored (length stored - 1) ≡ Some latest
    → latest_in hash stored ≡ Some (auditor_after hash (entry_in latest))
latest-is hash stored latest at = ap (option_map (λ (m : StoredEntry). auditor_after hash (entry_in m))) at

pub not_next : NotNextLaw
not_next hash stored latest entry again follows =
    let after = subst (λ (b : Option AuditorState). Follows verified_before b entry) (latest-is hash stored latest again.there) follows in
    let later : epoch_in latest < entry.body.t = row verified_before (Some (auditor_after hash (entry_in latest))) entry after NotLater in
    let same : entry.body.t ≡ epoch_in latest = ap (λ (b : Body). b.t) again.body in
    omega arith

pub shown_again : ShownAgainLaw
shown_again hash scheme stored latest entry name answer again = (
  same-shown hash scheme name (λ epoch. answer) (entry_in latest) entry (sym again.body),
  same-shown hash scheme name (λ epoch. answer) entry (entry_in latest) again.body,
)

pub goes_on : GoesOnLaw
goes_on hash stored latest mine next again follows =
    subst (λ (b : Option AuditorState). Follows verified_before b next) (sym (again-latest stored latest mine again hash)) follows

module _ (hash : List ℕ → List ℕ) (stored : List StoredEntry) (latest : StoredEntry) (chain : IsChain hash stored) (at_last : slice_get stored (length stored - 1) ≡ Some latest) where
  -- an epoch before the latest one is not later than the one that the latest entry names as the one before it
  before-latest : (k : ℕ) (mine : StoredEntry) → slice_get stored k ≡ Some mine → k ≢ length stored - 1 → epoch_in mine ≤ (entry_in latest).body.t_prev
  before-latest k mine at apart =
      let within = slice_get_within stored k mine at in
      let place : suc (length stored - 2) ≡ length stored - 1 = omega arith in
      let before = get_or stored (length stored - 2) mine in
      let at_b : slice_get stored (length stored - 2) ≡ Some before = slice_get-get_or stored (length stored - 2) mine (omega arith) in
      let follows = chain (length stored - 2) before latest at_b (ap (slice_get stored) place ∙ at_last) in
      let previous : (entry_in latest).body.t_prev ≡ epoch_in before = row verified_before (Some (auditor_after hash (entry_in before))) (entry_in latest) follows PreviousEpoch in
      ⊎_elim
      (λ (less : k < length stored - 2).
      let more = increasing hash (entries_in stored) (linked_of hash stored chain) k (length stored - 2) (entry_in mine) (entry_in before)
      (entry_at stored k mine at) (entry_at stored (length stored - 2) before at_b) less in
      omega arith)
      (λ (le : length stored - 2 ≤ k).
      let here : k ≡ length stored - 2 = omega arith in
      let same : epoch_in mine ≡ epoch_in before = ap epoch_in (same_Some mine before (sym at ∙ ap (slice_get stored) here ∙ at_b)) in
      omega arith)
      (cases_lt k (length stored - 2))

pub no_evidence : NoEvidenceLaw
no_evidence hash policy stored latest entry chain own again = λ k mine at kind convicts. by k mine at kind convicts
  where
    entry-own : IsOwn policy entry
    entry-own =
        let of_latest = own (length stored - 1) latest again.there in
        record {
          of_policy = ap (λ (b : Body). b.policy) again.body ∙ of_latest.of_policy;
          formed = subst IsWellFormed (sym again.body) of_latest.formed;
        }

    by : (k : ℕ) (mine : StoredEntry) → slice_get stored k ≡ Some mine → (kind : EvidenceKind) → ¬ Convicts (entry_in mine) entry kind
    by k mine at Overlap overlaps = ⊎_elim
        (λ (here : k ≡ length stored - 1).
        let same : mine ≡ latest = same_Some mine latest (sym at ∙ ap (slice_get stored) here ∙ again.there) in
        overlaps.differ (ap (λ (m : StoredEntry). (entry_in m).body) same ∙ sym again.body))
        (λ (apart : k ≢ length stored - 1).
        let upto = before-latest hash stored latest chain again.there k mine at apart in
        let previous : entry.body.t_prev ≡ (entry_in latest).body.t_prev = ap (λ (b : Body). b.t_prev) again.body in
        let from = overlaps.second.after in
        let to = overlaps.first.up_to in
        omega arith)
        (decide_ℕ k (length stored - 1))
    by k mine at OtherPolicy differ = differ ((own k mine at).of_policy ∙ sym entry-own.of_policy)
    by k mine at Malformed which = ⊎_elim
        (λ (left : ¬ IsWellFormed (entry_in mine).body). left (own k mine at).formed)
        (λ (right : ¬ IsWellFormed entry.body). right entry-own.formed)
        which
