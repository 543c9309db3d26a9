-- What an install or a commit says of the directory, its signer and its publisher.
use Rattle.std.specs.Prelude.{◌≡◌, ◌<◌, ◌≤◌, ◌+◌, ◌-◌, ◌^◌, ℕ, List, [], ◌∷◌, ◌++◌, length, Bool, true, Option, Some, None, Result, Ok, Err}
use Rattle.coniks_proof.specs.Octets.{Octets}
use Rattle.coniks_proof.specs.declared.values.Nonce.{Nonce}
use Rattle.coniks_chain.specs.Entries.{body_bytes}
use Rattle.coniks_chain.specs.declared.entry.Body.{Body}
use Rattle.coniks_chain.specs.declared.entry.Entry.{Entry}
use Rattle.coniks_chain.specs.declared.entry.Signature.{Signature}
use Rattle.coniks_threads.specs.Boards.{BoardEnd, Boarded}
use Rattle.coniks_directory.specs.Batches.{IsAccepted, most_nodes, operations}
use Rattle.coniks_directory.specs.Directories.{HasGoodChain, NextBody, NextBodyBy, heads, history, registry}
use Rattle.coniks_directory.specs.History.{Shown, nonce_bytes}
use Rattle.coniks_directory.specs.Nodes.{epoch_nodes}
use Rattle.coniks_directory.specs.State.{State, View}
use Rattle.coniks_directory.specs.Supplied.{AgreeOn, Supplied, supplied_index}
use Rattle.coniks_directory.specs.SuppliedBatches.{IsSuppliedUpdate, LeavesIndices, indices_of, put_indices}
use Rattle.coniks_directory.specs.Updates.{Grows, IsCommitFault, IsNotNext, IsRefused, ComesNext, MayInstall, base_of, nodes_added, registry_after, shown_after, shown_with}
use Rattle.coniks_directory.specs.declared.batch.Op.{Op}
use Rattle.coniks_directory.specs.declared.update.CommitFault.{CommitFault}
use Rattle.coniks_directory.specs.declared.update.InstallFault.{InstallFault}
use Rattle.coniks_directory.specs.declared.update.Prepared.{Prepared}

-- ---- before the call

-- the signer can count one more call, and the publisher is the board's and has published the heads of the chain
pub record IsReady {H X S : Type 0} (digest : H → Octets → Octets) (made_of refused_of : S → ℕ)
    (d : View H X) (signer : S) (publisher : BoardEnd) (board : Boarded) : Type 0 where
  pub made : made_of signer < 2 ^ 64 - 1
  pub refused : refused_of signer < 2 ^ 64 - 1
  pub table : publisher.table ≡ board.table
  pub published : publisher.heads ≡ heads digest d

-- ---- an entry

-- the directory has one epoch more, this entry of it, and this number of nodes more; by this function of indices the entry has the
-- next body
pub record AddsEpoch {H X : Type 0} (digest : H → Octets → Octets) (index_of : Octets → Octets)
    (d later : View H X) (shown : Shown) (added : ℕ) (entry : Entry) : Type 0 where
  pub history : history later ≡ history d ++ shown ∷ []
  pub chain : later.state.chain ≡ d.state.chain ++ entry ∷ []
  pub nodes : length later.state.nodes ≡ length d.state.nodes + added
  pub body : entry.body ≡ NextBodyBy digest d index_of shown

-- the epoch is that of the update
abbrev pub AddsUpdate : {H X : Type 0} → (H → Octets → Octets) → (X → Octets → Octets) → View H X → View H X → Prepared → ℕ → Entry → Type 0
AddsUpdate {H} {X} digest index d later update t entry =
    AddsEpoch digest (index d.index) d later (shown_after d.state update t) (nodes_added update) entry

-- the epoch is that of the batch; under the nonce that there was it adds few nodes, and without operations the fewest
pub record AddsBatch {H X : Type 0} (digest : H → Octets → Octets) (index : X → Octets → Octets)
    (d later : View H X) (nonce : Option Nonce) (ops : List Op) (t : ℕ) (entry : Entry) : Type 0 where
  pub epoch : AddsEpoch digest (index d.index) d later (shown_with d.state (nonce_bytes nonce) (operations ops) t)
      (epoch_nodes (index d.index) (history d) (nonce_bytes nonce) (operations ops)) entry
  pub few : nonce ≡ None → length later.state.nodes ≤ length d.state.nodes + most_nodes (history d) (length ops)
  pub none : nonce ≡ None → length ops ≡ 0 → length later.state.nodes ≡ length d.state.nodes + most_nodes (history d) 0

-- the entry is that of the update: by a function that the update was prepared by, its body is the next one
pub record IsNextEntry {H : Type 0} (digest : H → Octets → Octets) (d : View H (List Supplied)) (update : Prepared) (entry : Entry) : Type 0 where
  pub index : Octets → Octets
  pub supplied : IsSuppliedUpdate (digest d.hash) (supplied_index d.index) d.state update index
  pub body : entry.body ≡ NextBodyBy digest d index (shown_after d.state update entry.body.t)

-- the epoch is that of the update by each function that the update was prepared by; its names have their indices from then on
pub record AddsSupplied {H : Type 0} (digest : H → Octets → Octets) (d later : View H (List Supplied))
    (update : Prepared) (t : ℕ) (entry : Entry) : Type 0 where
  pub epoch : (index_of : Octets → Octets) → IsSuppliedUpdate (digest d.hash) (supplied_index d.index) d.state update index_of
      → AddsEpoch digest index_of d later (shown_after d.state update t) (nodes_added update) entry
  pub indices : later.index ≡ put_indices d.index (indices_of update)
  pub given : (index_of : Octets → Octets) → IsSuppliedUpdate (digest d.hash) (supplied_index d.index) d.state update index_of
      → AgreeOn index_of (supplied_index later.index) (registry_after d.state update)

-- the signer made one signature: that of the entry, for its body
pub record HasSigned {S : Type 0} (made_of refused_of : S → ℕ) (last_of : S → Option Entry)
    (signs : S → Octets → Option Signature → S → Type 0) (verdict_of : S → Octets → Octets → Bool)
    (old new : S) (entry : Entry) : Type 0 where
  pub made : made_of new ≡ made_of old + 1
  pub refused : refused_of new ≡ refused_of old
  pub last : last_of new ≡ Some entry
  pub requested : signs old (body_bytes entry.body) (Some entry.signature) new
  pub verdict : verdict_of new (body_bytes entry.body) entry.signature.0 ≡ true

-- ---- an entry or an error

-- an entry if the update may be installed, else the first error that applies, with the update
abbrev pub IsInstallResult : State → Prepared → ℕ → ℕ → ℕ → Result Entry (InstallFault × Prepared) → Type 0
IsInstallResult s update t published capacity (Ok entry) = MayInstall s (base_of update) t published capacity
IsInstallResult s update t published capacity (Err r) = IsRefused s (base_of update) t published capacity r.0 × (r.1 ≡ update)

-- the update comes next, or the first error that applies, with the update
abbrev pub IsNextResult : State → Prepared → ℕ → Result (Unit {0}) (InstallFault × Prepared) → Type 0
IsNextResult s update t (Ok _) = ComesNext s (base_of update) t
IsNextResult s update t (Err r) = IsNotNext s (base_of update) t r.0 × (r.1 ≡ update)

-- the batch is accepted, and its update may be installed
pub record MayCommit {H X : Type 0} (index : X → Octets → Octets) (d : View H X)
    (ops : List Op) (depth workers t published capacity : ℕ) : Type 0 where
  pub accepted : IsAccepted (index d.index) (registry d) (operations ops) depth workers
  pub may : MayInstall d.state (length d.state.epochs) t published capacity

-- an entry if the batch may be committed, else the first error that applies
abbrev pub IsCommitResult : {H X : Type 0} → (X → Octets → Octets) → View H X
    → List Op → ℕ → ℕ → ℕ → ℕ → ℕ → Result Entry CommitFault → Type 0
IsCommitResult {H} {X} index d ops depth workers t published capacity (Ok entry) = MayCommit index d ops depth workers t published capacity
IsCommitResult {H} {X} index d ops depth workers t published capacity (Err fault) =
    IsCommitFault (index d.index) d.state (operations ops) depth workers t published capacity fault

-- the directory is a later one, its good chain stays good, the heads are its own, and verdicts and table are as they were
pub record Keeps {H X S : Type 0} (digest : H → Octets → Octets) (verdict_of : S → Octets → Octets → Bool)
    (d later : View H X) (old new : S) (before after : BoardEnd) : Type 0 where
  pub grows : Grows d.state later.state
  pub good : HasGoodChain digest (verdict_of old) d → HasGoodChain digest (verdict_of new) later
  pub verdicts_retained : (bytes signature : Octets) → verdict_of new bytes signature ≡ verdict_of old bytes signature
  pub heads : after.heads ≡ heads digest later
  pub table : after.table ≡ before.table

-- the directory is a later one, and its good chain stays good if this entry is signed
pub record Follows {H X : Type 0} (digest : H → Octets → Octets) (d later : View H X) (entry : Entry) : Type 0 where
  pub grows : Grows d.state later.state
  pub good : (verdict : Octets → Octets → Bool) → verdict (body_bytes entry.body) entry.signature.0 ≡ true
      → HasGoodChain digest verdict d → HasGoodChain digest verdict later

-- the hash is the same, and each registered name keeps its index
pub record KeepsIndices {H : Type 0} (d later : View H (List Supplied)) : Type 0 where
  pub hash : later.hash ≡ d.hash
  pub agree : AgreeOn (supplied_index d.index) (supplied_index later.index) (registry d)

-- ---- an error

-- the body that an install of the update requests
abbrev pub update_body : {H X : Type 0} → (H → Octets → Octets) → (X → Octets → Octets) → View H X → Prepared → ℕ → Body
update_body {H} {X} digest index d update t = NextBody digest index d (shown_after d.state update t)

-- the body that a commit of the batch requests
abbrev pub batch_body : {H X : Type 0} → (H → Octets → Octets) → (X → Octets → Octets) → View H X → Option Nonce → List Op → ℕ → Body
batch_body {H} {X} digest index d nonce ops t = NextBody digest index d (shown_with d.state (nonce_bytes nonce) (operations ops) t)

-- the state is as it was, and the indices are those that the error leaves
pub record LeavesSupplied {H : Type 0} (update : Prepared) (d later : View H (List Supplied)) (fault : InstallFault) : Type 0 where
  pub state : later.state ≡ d.state
  pub indices : LeavesIndices (indices_of update) d.index later.index fault
