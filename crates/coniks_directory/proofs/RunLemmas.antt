-- A run of public calls leaves the directory that its batches define.
use Rattle.std.proofs.Common.{◌≡◌, ℕ, List, [], ◌∷◌, ◌++◌, ◌<◌, refl, sym, ap, subst, ◌∙◌, append_assoc}
use Rattle.coniks_directory.proofs.Words.{AreAccepted, AreAcceptedFrom, Batch, HaveOwnIndices, IsAccepted, Run, Shown, State, after}
use Rattle.coniks_directory.proofs.Words.{append-nil, defined, epochs_from, history_of, latest_epoch, latest_nonce}
use Rattle.coniks_directory.proofs.Words.{latest_registry, latest_version, shown_by}
use Rattle.coniks_directory.specs.Runs as runs
use Rattle.coniks_proof.proofs.Lemmas.{may_follow, own_after}
use Rattle.coniks_directory.proofs.FreshLemmas.{fresh_rotates, fresh_history, fresh_registry}
use Rattle.coniks_directory.proofs.LastLemmas.{at_end}
use Rattle.coniks_directory.proofs.StepLemmas.{HasBegun, Steps, begun, committed, installed, stayed}
use Rattle.coniks_directory.specs.Runs.{Start, begins_after, nonce_of, opening, policy_of, restoring}
use Rattle.coniks_directory.proofs.AgreementLemmas.{prepared_agree, steps_agree}

-- a state is that of the directory that the batches define, and further batches continue from it
pub record IsDefined (index_of : List ℕ → List ℕ) (start : Start) (batches : List Batch) (s : State) : Type 0 where
  pub nonce_is : s.nonce ≡ nonce_of start
  pub policy_is : s.policy ≡ policy_of start
  pub before_is : s.before ≡ begins_after start
  own : HaveOwnIndices index_of (latest_registry (history_of s))
  epochs : (more : List Batch) → defined start (batches ++ more)
      ≡ history_of s ++ epochs_from (latest_version 1 (history_of s)) (latest_nonce (nonce_of start) (history_of s)) (latest_registry (history_of s)) more
  accepts : (more : List Batch) → AreAcceptedFrom index_of (latest_epoch (history_of s)) (latest_registry (history_of s)) more → AreAccepted index_of start (batches ++ more)

module _ (index_of : List ℕ → List ℕ) (start : Start) (batches : List Batch) (s : State) (d : IsDefined index_of start batches s) where
  -- so is a later state with the epoch of one more batch
  next : (b : Batch) (later : State) (shown : Shown) (depth workers : ℕ) → later.nonce ≡ s.nonce → later.policy ≡ s.policy → later.before ≡ s.before → IsAccepted index_of (latest_registry (history_of s)) b.ops depth workers
      → latest_epoch (history_of s) < b.t → history_of later ≡ history_of s ++ shown ∷ []
      → shown ≡ shown_by (latest_version 1 (history_of s)) (latest_nonce s.nonce (history_of s)) (latest_registry (history_of s)) b → IsDefined index_of start (batches ++ b ∷ []) later
  next b later shown depth workers nonce-is policy-is before-is a rises history shown-is =
      let registry = ap latest_registry history ∙ at_end latest_registry (λ x. x.registry) (λ x. refl) (λ x y xs. refl) (history_of s) shown ∙ ap (λ (x : Shown). x.registry) shown-is in
      let epoch = ap latest_epoch history ∙ at_end latest_epoch (λ x. x.t) (λ x. refl) (λ x y xs. refl) (history_of s) shown ∙ ap (λ (x : Shown). x.t) shown-is in
      let version = ap (latest_version 1) history ∙ at_end (latest_version 1) (λ x. x.version) (λ x. refl) (λ x y xs. refl) (history_of s) shown ∙ ap (λ (x : Shown). x.version) shown-is in
      let under = ap (latest_nonce (nonce_of start)) history ∙ at_end (latest_nonce (nonce_of start)) (λ x. x.nonce) (λ x. refl) (λ x y xs. refl) (history_of s) shown ∙ ap (λ (x : Shown). x.nonce) shown-is in
      let may = may_follow index_of (latest_registry (history_of s)) b.ops d.own a.faultless in
      record {
        nonce_is = nonce-is ∙ d.nonce_is;
        policy_is = policy-is ∙ d.policy_is;
        before_is = before-is ∙ d.before_is;
        own = rw registry (own_after index_of (latest_registry (history_of s)) b.ops may);
        epochs = λ more. rw (append_assoc batches (b ∷ []) more, registry, version, under, history, append_assoc (history_of s) (shown ∷ []), shown-is, d.nonce_is) (d.epochs (b ∷ more));
        accepts = λ more all. rw (append_assoc batches (b ∷ []) more) (d.accepts (b ∷ more) (rises, a.few, may, rw (epoch, registry) at all));
      }

defined_first : (hash index_of : List ℕ → List ℕ) (start : Start) (s : State) → HasBegun hash index_of start s → IsDefined index_of start [] s
defined_first hash index_of (opening nonce policy) s is = subst (IsDefined index_of (opening nonce policy) []) (sym is)
    (record { nonce_is = refl; policy_is = refl; before_is = refl; own = λ x y has. absurd (let never = has in cc); epochs = λ more. refl; accepts = λ more all. all })
defined_first hash index_of (restoring entry ops) s (faultless, r) =
    let may = may_follow index_of [] ops (λ x y has. absurd (let never = has in cc)) faultless in
    record {
      nonce_is = r.nonce;
      policy_is = r.policy;
      before_is = r.before;
      own = rw r.history (own_after index_of [] ops may);
      epochs = λ more. rw r.history refl;
      accepts = λ more all. (may, rw r.history at all);
    }

defined_by_steps : (hash index_of : List ℕ → List ℕ) (start : Start) (batches : List Batch) (s : State) → Steps hash index_of start batches s → IsDefined index_of start batches s
defined_by_steps hash index_of start _ _ (begun s has) = defined_first hash index_of start s has
defined_by_steps hash index_of start _ _ (stayed batches s later run same) = subst
    (IsDefined index_of start batches) (sym same) (defined_by_steps hash index_of start batches s run)
defined_by_steps hash index_of start _ _ (committed batches b s later depth workers run accepted may history grows) =
    next index_of start batches s (defined_by_steps hash index_of start batches s run) b later _ depth workers grows.nonce grows.policy grows.before accepted may.later history refl
defined_by_steps hash index_of start _ _ (installed batches b earlier s later update depth workers run prepared since may history grows) =
    let rotates = fresh_rotates hash index_of earlier s update since prepared.is_update may.fresh b.new_nonce prepared.rotates in
    let same = fresh_history hash index_of earlier s update since prepared.is_update may.fresh in
    let registry = fresh_registry hash index_of earlier s update since prepared.is_update may.fresh ∙ prepared.registry ∙ ap (λ ss. after (latest_registry ss) b.ops) (sym same) in
    let accepted = subst (λ ss. IsAccepted index_of (latest_registry ss) b.ops depth workers) (sym same) prepared.accepted in
    next index_of start batches s (defined_by_steps hash index_of start batches s run) b later _ depth workers grows.nonce grows.policy grows.before accepted may.later history
    (rw (rotates.version, rotates.nonce, registry) refl)

-- a run is one with the function of indices at its end, as if no index had been supplied
steps_of : (hash index_of : List ℕ → List ℕ) (start : Start) (batches : List Batch) (s : State) → Run hash index_of start batches s → Steps hash index_of start batches s
steps_of hash _ _ _ _ (runs.opened index_of nonce policy) = begun _ refl
steps_of hash _ _ _ _ (runs.restored index_of entry ops s faultless r) = begun s (faultless, r)
steps_of hash _ _ _ _ (runs.stayed index_of start batches s later run same) = stayed batches s later (steps_of hash index_of start batches s run) same
steps_of hash _ _ _ _ (runs.supplied index_of also start batches s run agree) = steps_agree hash index_of also start batches s agree (steps_of hash index_of start batches s run)
steps_of hash _ _ _ _ (runs.committed index_of start batches b s later depth workers run accepted may history grows) =
    committed batches b s later depth workers (steps_of hash index_of start batches s run) accepted may history grows
steps_of hash _ _ _ _ (runs.installed index_of then start batches b earlier s later update depth workers run prepared agree since may history grows) =
    installed batches b earlier s later update depth workers (steps_of hash index_of start batches s run)
    (prepared_agree hash then index_of earlier b.new_nonce b.ops depth workers update agree prepared) since may history grows

pub defined_by : (hash index_of : List ℕ → List ℕ) (start : Start) (batches : List Batch) (s : State) → Run hash index_of start batches s → IsDefined index_of start batches s
defined_by hash index_of start batches s run = defined_by_steps hash index_of start batches s (steps_of hash index_of start batches s run)

module _ (hash index_of : List ℕ → List ℕ) (start : Start) (batches : List Batch) (s : State) (run : Run hash index_of start batches s) where
  pub history_by : history_of s ≡ defined start batches
  history_by = sym (ap (defined start) (sym (append-nil batches)) ∙ (defined_by hash index_of start batches s run).epochs [] ∙ append-nil (history_of s))

  pub accepted_by : AreAccepted index_of start batches
  accepted_by = subst (AreAccepted index_of start) (append-nil batches) ((defined_by hash index_of start batches s run).accepts [] tt)
