-- Runs of public calls on a directory, each by its contract, and the directory that the batches define.
use Rattle.std.specs.Prelude.{◌≡◌, ◌<◌, ◌≤◌, ℕ, List, [], ◌∷◌, ◌++◌, length, Option, Some, None}
use Rattle.coniks_proof.specs.Batches.{MayFollow, Operation, after, first_fault}
use Rattle.coniks_proof.specs.Octets.{Octets}
use Rattle.coniks_proof.specs.Registry.{Registry}
use Rattle.coniks_proof.specs.declared.values.TheConstants.{MAX_OPERATIONS}
use Rattle.coniks_chain.specs.declared.auditor.AuditorState.{AuditorState}
use Rattle.coniks_chain.specs.declared.entry.Entry.{Entry}
use Rattle.coniks_directory.specs.Batches.{IsAccepted}
use Rattle.coniks_directory.specs.History.{Shown, latest_registry, nonce_after, version_after}
use Rattle.coniks_directory.specs.Restored.{Restores, restored_epoch, stated_before}
use Rattle.coniks_directory.specs.State.{State, history_of, opened as nothing}
use Rattle.coniks_directory.specs.Supplied.{AgreeOn}
use Rattle.coniks_directory.specs.Updates.{RotatesTo, Grows, IsUpdate, ComesNext, base_of, registry_after, shown_after, shown_with}
use Rattle.coniks_directory.specs.declared.update.Prepared.{Prepared}

-- a batch, its epoch, and its nonce, if it has one
pub record Batch : Type 0 where
  pub t : ℕ
  pub new_nonce : Option Octets
  pub ops : List Operation

-- the epoch that a batch makes after one of this version, nonce and registry
abbrev pub shown_by : ℕ → Octets → Registry → Batch → Shown
shown_by version nonce registry b =
    record { t = b.t; version = version_after b.new_nonce version; nonce = nonce_after b.new_nonce nonce; registry = after registry b.ops }

-- the epochs that batches make, one after the other, after one of this version, nonce and registry
abbrev pub epochs_from : ℕ → Octets → Registry → List Batch → List Shown
epochs_from version nonce registry [] = []
epochs_from version nonce registry (b ∷ bs) =
    shown_by version nonce registry b ∷ epochs_from (version_after b.new_nonce version)
    (nonce_after b.new_nonce nonce) (after registry b.ops) bs

-- how a directory begins: by `open`, or by `restore` of an entry and the bindings at its epoch
pub data Start : Type 0 where
  opening : (nonce policy : Octets) → Start
  restoring : (entry : Entry) (ops : List Operation) → Start

abbrev pub nonce_of : Start → Octets
nonce_of (opening nonce policy) = nonce
nonce_of (restoring entry ops) = entry.body.nonce.0

abbrev pub policy_of : Start → Octets
policy_of (opening nonce policy) = policy
policy_of (restoring entry ops) = entry.body.policy

-- what the first entry of its chain is compared with
abbrev pub begins_after : Start → Option AuditorState
begins_after (opening nonce policy) = None
begins_after (restoring entry ops) = Some (stated_before entry)

-- the directory that batches define: its epochs, from version 1, the nonce of `open` and the empty registry on, or from the
-- entry's epoch on
abbrev pub defined : Start → List Batch → List Shown
defined (opening nonce policy) batches = epochs_from 1 nonce [] batches
defined (restoring entry ops) batches =
    restored_epoch entry ops ∷ epochs_from entry.body.version entry.body.nonce.0 (after [] ops) batches

-- each batch is under a later epoch, has not too many operations, and may follow the registry before it
abbrev pub AreAcceptedFrom : (Octets → Octets) → ℕ → Registry → List Batch → Type 0
AreAcceptedFrom index_of t registry [] = Unit {0}
AreAcceptedFrom index_of t registry (b ∷ bs) =
    (t < b.t) × (length b.ops ≤ MAX_OPERATIONS) × MayFollow index_of registry b.ops × AreAcceptedFrom index_of b.t (after registry b.ops) bs

-- a history of accepted batches; the bindings of `restore` may follow the empty registry, and be of any number
abbrev pub AreAccepted : (Octets → Octets) → Start → List Batch → Type 0
AreAccepted index_of (opening nonce policy) batches = AreAcceptedFrom index_of 0 [] batches
AreAccepted index_of (restoring entry ops) batches =
    MayFollow index_of [] ops × AreAcceptedFrom index_of entry.body.t (after [] ops) batches

-- what an Ok `prepare`, or `prepare_with` of a nonce, says of its update, by the directory as it was then
pub record IsPreparedOf (hash index_of : Octets → Octets) (s : State) (new_nonce : Option Octets)
    (ops : List Operation) (depth workers : ℕ) (update : Prepared) : Type 0 where
  pub is_update : IsUpdate hash index_of s update
  pub rotates : RotatesTo s new_nonce update
  pub registry : registry_after s update ≡ after (latest_registry (history_of s)) ops
  pub accepted : IsAccepted index_of (latest_registry (history_of s)) ops depth workers

-- public calls on a directory, from `open` or `restore` on, in which these batches were installed, each by its contract; the
-- function of indices is the one that the directory holds at the end
pub data Run (hash : Octets → Octets) : (Octets → Octets) → Start → List Batch → State → Type 0 where
  opened : (index_of : Octets → Octets) (nonce policy : Octets) → Run hash index_of (opening nonce policy) [] (nothing nonce policy)
  restored : (index_of : Octets → Octets) (entry : Entry) (ops : List Operation) (s : State)
      → first_fault index_of [] ops ≡ None → Restores entry ops s → Run hash index_of (restoring entry ops) [] s
  -- a call that was refused, or that only reads
  stayed : (index_of : Octets → Octets) (start : Start) (batches : List Batch) (s later : State)
      → Run hash index_of start batches s → later ≡ s → Run hash index_of start batches later
  -- an index was supplied, and the registered names have those that they had
  supplied : (index_of also : Octets → Octets) (start : Start) (batches : List Batch) (s : State)
      → Run hash index_of start batches s → AgreeOn index_of also (latest_registry (history_of s))
      → Run hash also start batches s
  committed : (index_of : Octets → Octets) (start : Start) (batches : List Batch) (b : Batch)
      (s later : State) (depth workers : ℕ) → Run hash index_of start batches s
      → IsAccepted index_of (latest_registry (history_of s)) b.ops depth workers
      → ComesNext s (length s.epochs) b.t
      → history_of later ≡ history_of s ++ shown_with s b.new_nonce b.ops b.t ∷ [] → Grows s later
      → Run hash index_of start (batches ++ b ∷ []) later
  -- the update was prepared earlier, with any calls in between, and the names that it leaves have the indices that they had then
  installed : (index_of then : Octets → Octets) (start : Start) (batches : List Batch)
      (b : Batch) (earlier s later : State) (update : Prepared) (depth workers : ℕ)
      → Run hash index_of start batches s
      → IsPreparedOf hash then earlier b.new_nonce b.ops depth workers update
      → AgreeOn then index_of (registry_after earlier update) → Grows earlier s
      → ComesNext s (base_of update) b.t
      → history_of later ≡ history_of s ++ shown_after s update b.t ∷ [] → Grows s later
      → Run hash index_of start (batches ++ b ∷ []) later
