-- What an accepted entry keeps.
use Rattle.std.proofs.Common.{◌≡◌, ◌≢◌, ℕ, ◌-◌, ◌<◌, List, Bool, length, Option, Some, refl, sym, ap, subst, ◌∙◌, ⊎_elim}
use Rattle.std.specs.List.{slice_get}
use Rattle.coniks_chain.specs.Chain.{Follows}
use Rattle.coniks_chain.specs.Entries.{entry_from}
use Rattle.coniks_chain.specs.declared.entry.Entry.{Entry}
use Rattle.coniks_client.specs.Feeding.{AreOwn, IsOwn, IsSignedAgain, IsVerified}
use Rattle.coniks_client.specs.StoredEntry.{IsChain, entry_in, latest_in, verified_before}
use Rattle.coniks_client.specs.Owner.{IsBacked, IsWatched, Scheme}
use Rattle.coniks_client.specs.Steps.{IsAccepted, again_stored, stored_with, new_stored}
use Rattle.coniks_client.specs.declared.changes.Change.{Change}
use Rattle.coniks_client.specs.declared.stored.StoredEntry.{StoredEntry}
use Rattle.coniks_client.specs.declared.steps.Accepted.{Accepted}
use Rattle.coniks_client.specs.declared.steps.Accepted.TheVariants.{Next, Again}
use Rattle.coniks_client.specs.declared.watching.Watch.{Watch}
use Rattle.coniks_client.proofs.AgainLemmas.{again-backed, again-chain, again-watched, which_latest}
use Rattle.coniks_client.proofs.StepLemmas.{backed-push, chain-push, new-unseen, which}
use Rattle.coniks_client.proofs.WatchLemmas.{watched-push}

module _ (hash : List ℕ → List ℕ) (verdict : List ℕ → List ℕ → Bool) (policy : List ℕ) (stored : List StoredEntry) (watch : Option Watch) (bytes : List ℕ) (time : ℕ) where
  -- what a call returns is accepted
  pub is-next : (entry : Entry) (mine : StoredEntry) → entry ≡ entry_from bytes → IsVerified verdict policy bytes → Follows verified_before (latest_in hash stored) entry
      → mine ≡ new_stored watch bytes time → IsAccepted hash verdict policy stored watch bytes time (Next mine)
  is-next entry mine from verified follows is =
      (record { verified = verified; follows = subst (λ (e : Entry). Follows verified_before (latest_in hash stored) e) from follows }, is)

  pub is-again : (entry : Entry) (latest mine : StoredEntry) → entry ≡ entry_from bytes → IsVerified verdict policy bytes → IsSignedAgain stored latest entry
      → mine ≡ again_stored latest bytes → IsAccepted hash verdict policy stored watch bytes time (Again mine)
  is-again entry latest mine from verified again is = (verified, (latest, subst (λ (e : Entry). IsSignedAgain stored latest e) from again, is))

  -- what is seen of a new epoch is not the same yet
  unseen : ¬ (new_stored watch bytes time).seen ≡ 1
  unseen = new-unseen watch (entry_from bytes).body.t (new_stored watch bytes time).seen refl

  -- a stored epoch is an old one, or the accepted one
  pub accepted-own : (accepted : Accepted) → IsAccepted hash verdict policy stored watch bytes time accepted → AreOwn policy stored → AreOwn policy (stored_with stored accepted)
  accepted-own (Next mine) is own = λ k x at. ⊎_elim
      (λ (old : (k < length stored) × (slice_get stored k ≡ Some x)). own k x old.1)
      (λ (new : (k ≡ length stored) × (mine ≡ x)). subst (λ (m : StoredEntry). IsOwn policy (entry_in m)) (sym is.1 ∙ new.1) is.0.verified.own)
      (which stored mine x k at)
  accepted-own (Again mine) is own = λ k x at. ⊎_elim
      (λ (old : (k ≢ length stored - 1) × (slice_get stored k ≡ Some x)). own k x old.1)
      (λ (new : (k ≡ length stored - 1) × (mine ≡ x)). subst (λ (m : StoredEntry). IsOwn policy (entry_in m)) (sym is.1.2 ∙ new.1) is.0.own)
      (which_latest stored is.1.0 mine (subst (λ (m : StoredEntry). IsSignedAgain stored is.1.0 (entry_in m)) (sym is.1.2) is.1.1) k x at)

  pub accepted-chain : (accepted : Accepted) → IsAccepted hash verdict policy stored watch bytes time accepted → IsChain hash stored → IsChain hash (stored_with stored accepted)
  accepted-chain (Next mine) is chain =
      chain-push hash stored mine chain (subst (λ (m : StoredEntry). Follows verified_before (latest_in hash stored) (entry_in m)) (sym is.1) is.0.follows)
  accepted-chain (Again mine) is chain =
      again-chain stored is.1.0 mine (subst (λ (m : StoredEntry). IsSignedAgain stored is.1.0 (entry_in m)) (sym is.1.2) is.1.1) hash chain

  pub accepted-backed : (accepted : Accepted) → IsAccepted hash verdict policy stored watch bytes time accepted
      → (scheme : Scheme) (name : List ℕ) (expected : ℕ → Option (List ℕ)) → IsBacked hash scheme name expected stored → IsBacked hash scheme name expected (stored_with stored accepted)
  accepted-backed (Next mine) is scheme name expected backed =
      backed-push hash scheme name expected stored mine (subst (λ (m : StoredEntry). ¬ m.seen ≡ 1) (sym is.1) unseen) backed
  accepted-backed (Again mine) is scheme name expected backed =
      again-backed stored is.1.0 mine (subst (λ (m : StoredEntry). IsSignedAgain stored is.1.0 (entry_in m)) (sym is.1.2) is.1.1)
      (ap (λ (m : StoredEntry). m.seen) is.1.2) hash scheme name expected backed

  pub accepted-watched : (accepted : Accepted) → IsAccepted hash verdict policy stored watch bytes time accepted
      → (scheme : Scheme) (name : List ℕ) (key : Option (List ℕ)) (changes : List Change) → IsWatched hash scheme name key changes stored
      → IsWatched hash scheme name key changes (stored_with stored accepted)
  accepted-watched (Next mine) is scheme name key changes watched =
      watched-push hash scheme name key changes stored mine (subst (λ (m : StoredEntry). ¬ m.seen ≡ 1) (sym is.1) unseen) watched
  accepted-watched (Again mine) is scheme name key changes watched =
      again-watched stored is.1.0 mine (subst (λ (m : StoredEntry). IsSignedAgain stored is.1.0 (entry_in m)) (sym is.1.2) is.1.1)
      (ap (λ (m : StoredEntry). m.seen) is.1.2) hash scheme name key changes watched
