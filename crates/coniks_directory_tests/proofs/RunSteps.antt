-- Steps of a run, from the contracts of the calls.
use Rattle.std.proofs.Common.{◌≡◌, ℕ, List, [], ◌∷◌, ◌++◌, IfErr, IfOk, OnOk, Ok, Err, Result, Option, subst, sym}
use Rattle.coniks_proof.specs.Batches.{Operation}
use Rattle.coniks_chain.specs.declared.entry.Entry.{Entry}
use Rattle.coniks_directory.specs.Restored.{IsRestorable, Restores}
use Rattle.coniks_proof.specs.Octets.{Octets}
use Rattle.coniks_proof.specs.declared.values.Nonce.{Nonce}
use Rattle.coniks_directory.specs.Batches.{operations}
use Rattle.coniks_directory.specs.Directories.{IsAlike, NextBodyBy}
use Rattle.coniks_directory.specs.History.{latest_registry, nonce_bytes}
use Rattle.coniks_directory.specs.Installs.{AddsBatch, AddsSupplied, AddsUpdate, IsCommitResult, IsInstallResult, IsNextEntry, IsNextResult, KeepsIndices, LeavesSupplied}
use Rattle.coniks_directory.specs.Runs.{Batch, IsPreparedOf, Run, Start, committed, installed, restored, restoring, supplied}
use Rattle.coniks_directory.specs.State.{State, View, history_of}
use Rattle.coniks_directory.specs.Supplied.{AgreeOn, Supplied, supplied_index}
use Rattle.coniks_directory.specs.SuppliedBatches.{IsSuppliedUpdate}
use Rattle.coniks_directory.specs.Updates.{Grows, registry_after, shown_after}
use Rattle.coniks_directory.specs.declared.batch.Op.{Op}
use Rattle.coniks_directory.specs.declared.update.CommitFault.{CommitFault}
use Rattle.coniks_directory.specs.declared.update.InstallFault.{InstallFault}
use Rattle.coniks_directory.specs.declared.update.Prepared.{Prepared}

-- a run of a directory is one of each directory with the same hash and index source
moved : {H X : Type 0} (digest : H → Octets → Octets) (index : X → Octets → Octets) (h h' : H) (x x' : X) (start : Start) (batches : List Batch) (s : State)
    → h' ≡ h → x' ≡ x → Run (digest h) (index x) start batches s → Run (digest h') (index x') start batches s
moved {H} {X} digest index h h' x x' start batches s same_hash same_index run =
    subst (λ (y : X). Run (digest h') (index y) start batches s) (sym same_index)
    (subst (λ (g : H). Run (digest g) (index x) start batches s) (sym same_hash) run)

-- a refused `install` returns the update
pub handed_back : (s : State) (update : Prepared) (t published capacity : ℕ) (result : Result Entry (InstallFault × Prepared))
    → IsInstallResult s update t published capacity result → IfErr result (λ r. r.1 ≡ update)
handed_back s update t published capacity (Ok entry) is = tt
handed_back s update t published capacity (Err r) is = is.1

-- the update that a refused `install_supplied` returns can be installed with the same entry
pub next_still : {H : Type 0} (digest : H → Octets → Octets) (result : Result (Unit {0}) (InstallFault × Prepared)) (v v' : View H (List Supplied)) (update : Prepared) (entry : Entry) (index : Octets → Octets)
    → IsNextResult v.state update entry.body.t result → KeepsIndices v v' → IfErr result (λ r. LeavesSupplied update v v' r.0)
    → IsSuppliedUpdate (digest v'.hash) (supplied_index v'.index) v'.state update index → entry.body ≡ NextBodyBy digest v index (shown_after v.state update entry.body.t)
    → IfErr result (λ r. IsNextEntry digest v' r.1 entry)
next_still digest (Ok _) v v' update entry index is same left given body = tt
next_still digest (Err r) v v' update entry index is same left given body =
    subst (λ (p : Prepared). IsNextEntry digest v' p entry) (sym is.1) (record { index = index; supplied = given; body = rw (left.state, same.hash) body })

-- a `finish`, with which a restored directory begins
pub restore_step : {H X E : Type 0} (digest : H → Octets → Octets) (index : X → Octets → Octets) (h : H) (x : X) (result : Result (View H X) E) (entry : Entry) (ops : List Operation)
    → IfOk result (λ d. Restores entry ops d.state) → IfOk result (λ d. d.hash ≡ h) → IfOk result (λ d. d.index ≡ x)
    → OnOk result (IsRestorable (digest h) (index x) entry ops) → IfOk result (λ d. Run (digest d.hash) (index d.index) (restoring entry ops) [] d.state)
restore_step digest index h x (Err e) entry ops is same_hash same_index accepted = is
restore_step digest index h x (Ok d) entry ops is same_hash same_index accepted =
    moved digest index h d.hash x d.index (restoring entry ops) [] d.state same_hash same_index (restored (index x) entry ops d.state accepted.faultless is)

-- an `install`
pub install_step : {H X : Type 0} (digest : H → Octets → Octets) (index : X → Octets → Octets) (result : Result Entry (InstallFault × Prepared)) (v v' : View H X) (update : Prepared) (t published capacity : ℕ)
    → IfOk result (AddsUpdate digest index v v' update t) → IsInstallResult v.state update t published capacity result
    → IsAlike v' v → Grows v.state v'.state
    → OnOk result ((then : Octets → Octets) (start : Start) (batches : List Batch) (earlier : State) (new_nonce : Option Octets) (ops : List Operation) (depth workers : ℕ)
    → Run (digest v.hash) (index v.index) start batches v.state
    → IsPreparedOf (digest v.hash) then earlier new_nonce ops depth workers update → AgreeOn then (index v.index) (registry_after earlier update) → Grows earlier v.state
    → Run (digest v'.hash) (index v'.index) start (batches ++ record { t = t; new_nonce = new_nonce; ops = ops } ∷ []) v'.state)
install_step digest index (Err e) v v' update t published capacity added may same grows = added
install_step digest index (Ok a) v v' update t published capacity added may same grows = λ then start batches earlier new_nonce ops depth workers run prepared agree since.
    moved digest index v.hash v'.hash v.index v'.index start (batches ++ record { t = t; new_nonce = new_nonce; ops = ops } ∷ []) v'.state same.hash same.index
    (installed (index v.index) then start batches (record { t = t; new_nonce = new_nonce; ops = ops })
    earlier v.state v'.state update depth workers run prepared agree since may.next added.history grows)

-- a `commit`
pub commit_step : {H X : Type 0} (digest : H → Octets → Octets) (index : X → Octets → Octets) (result : Result Entry CommitFault)
    (v v' : View H X) (new_nonce : Option Nonce) (ops : List Op) (depth workers t published capacity : ℕ)
    → IfOk result (AddsBatch digest index v v' new_nonce ops t) → IsCommitResult index v ops depth workers t published capacity result → IsAlike v' v → Grows v.state v'.state
    → OnOk result ((start : Start) (batches : List Batch) → Run (digest v.hash) (index v.index) start batches v.state
    → Run (digest v'.hash) (index v'.index) start (batches ++ record { t = t; new_nonce = nonce_bytes new_nonce; ops = operations ops } ∷ []) v'.state)
commit_step digest index (Err e) v v' new_nonce ops depth workers t published capacity added may same grows = added
commit_step digest index (Ok a) v v' new_nonce ops depth workers t published capacity added may same grows = λ start batches run.
    let b : Batch = record { t = t; new_nonce = nonce_bytes new_nonce; ops = operations ops } in
    moved digest index v.hash v'.hash v.index v'.index start (batches ++ b ∷ []) v'.state same.hash same.index
    (committed (index v.index) start batches b v.state v'.state depth workers run may.accepted may.may.next added.epoch.history grows)

-- a `supply`, refused or not
pub supply_step : {H X : Type 0} (digest : H → Octets → Octets) (index : X → Octets → Octets) (v v' : View H X) → v'.state ≡ v.state → v'.hash ≡ v.hash
    → AgreeOn (index v.index) (index v'.index) (latest_registry (history_of v.state)) → (start : Start) (batches : List Batch)
    → Run (digest v.hash) (index v.index) start batches v.state → Run (digest v'.hash) (index v'.index) start batches v'.state
supply_step {H} digest index v v' same_state same_hash agree start batches run =
    subst (λ (s : State). Run (digest v'.hash) (index v'.index) start batches s) (sym same_state)
    (subst (λ (h : H). Run (digest h) (index v'.index) start batches v.state) (sym same_hash)
    (supplied (index v.index) (index v'.index) start batches v.state run agree))

-- an `install_supplied` of an update that was prepared from the directory as it is
pub install_supplied_step : {H : Type 0} (digest : H → Octets → Octets) (result : Result (Unit {0}) (InstallFault × Prepared)) (v v' : View H (List Supplied)) (update : Prepared) (t : ℕ) (entry : Entry)
    → OnOk result (AddsSupplied digest v v' update t entry) → IsNextResult v.state update t result
    → KeepsIndices v v' → Grows v.state v.state → Grows v.state v'.state
    → OnOk result ((index : Octets → Octets) (start : Start) (batches : List Batch) (new_nonce : Option Octets) (ops : List Operation) (depth workers : ℕ)
    → Run (digest v.hash) (supplied_index v.index) start batches v.state
    → IsSuppliedUpdate (digest v.hash) (supplied_index v.index) v.state update index
    → IsPreparedOf (digest v.hash) index v.state new_nonce ops depth workers update
    → Run (digest v'.hash) (supplied_index v'.index) start (batches ++ record { t = t; new_nonce = new_nonce; ops = ops } ∷ []) v'.state)
install_supplied_step digest (Err e) v v' update t entry added may same still grows = added
install_supplied_step {H} digest (Ok a) v v' update t entry added may same still grows = λ index start batches new_nonce ops depth workers run update_is prepared.
    let then = supplied_index v'.index in
    subst (λ (h : H). Run (digest h) then start (batches ++ record { t = t; new_nonce = new_nonce; ops = ops } ∷ []) v'.state) (sym same.hash)
    (installed then index start batches (record { t = t; new_nonce = new_nonce; ops = ops }) v.state v.state v'.state update depth workers
    (supplied (supplied_index v.index) then start batches v.state run same.agree) prepared (added.given index update_is) still may (added.epoch index update_is).history grows)
