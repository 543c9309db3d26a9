-- Updates that were prepared, and what an install of one leaves.
use Rattle.std.specs.Prelude.{◌≡◌, ◌≢◌, ◌<◌, ◌≤◌, ◌+◌, ℕ, List, [], ◌++◌, length, Option, None}
use Rattle.coniks_proof.specs.Batches.{Operation, after}
use Rattle.coniks_proof.specs.Hashing.{hashing}
use Rattle.coniks_proof.specs.Octets.{Octets}
use Rattle.coniks_proof.specs.Registry.{Registry}
use Rattle.coniks_chain.specs.Entries.{body_bytes}
use Rattle.coniks_chain.specs.declared.entry.Body.{Body}
use Rattle.coniks_chain.specs.declared.entry.Entry.{Entry}
use Rattle.coniks_chain.specs.declared.entry.Signature.{Signature}
use Rattle.coniks_tree.specs.Table.{Numbered, Extends, table}
use Rattle.coniks_tree.specs.Parts.{Stands, Fits, Placed}
use Rattle.coniks_tree.specs.declared.table.Record.{Record}
use Rattle.coniks_directory.specs.Batches.{IsAccepted, IsBatchFault}
use Rattle.coniks_directory.specs.History.{Shown, latest_epoch, latest_nonce, latest_registry, latest_version, nonce_after, version_after}
use Rattle.coniks_directory.specs.State.{State, Mirrors, history_of, last_count, registry_at}
use Rattle.coniks_directory.specs.declared.epochs.Epoch.{Epoch}
use Rattle.coniks_directory.specs.declared.update.Prepared.{Prepared}
use Rattle.coniks_directory.specs.declared.update.CommitFault.{CommitFault}
use Rattle.coniks_directory.specs.declared.update.CommitFault.TheVariants.{Batch, Install}
use Rattle.coniks_directory.specs.declared.update.InstallFault.{InstallFault}
use Rattle.coniks_directory.specs.declared.update.InstallFault.TheVariants.{Stale, EpochNotLater, BoardFull, OutOfMemory, SignerRefused}

-- how many nodes an install of the update adds
abbrev pub nodes_added : Prepared → ℕ
nodes_added p = p.new_nodes

-- how many epochs there were when the update was prepared
abbrev pub base_of : Prepared → ℕ
base_of p = p.base

-- all records once the update is installed
abbrev pub records_after : State → Prepared → List Record
records_after s p = s.records ++ p.records.items

-- the registry that the update leaves
abbrev pub registry_after : State → Prepared → Registry
registry_after s p = registry_at (records_after s p) (length (records_after s p))

-- the epoch that an install of the update under a number makes
abbrev pub shown_after : State → Prepared → ℕ → Shown
shown_after s p t = record { t = t; version = p.version; nonce = p.nonce.0; registry = registry_after s p }

-- the epoch that a commit of a batch makes under a number, with a new nonce or with the latest
abbrev pub shown_with : State → Option Octets → List Operation → ℕ → Shown
shown_with s new_nonce ops t = record {
  t = t;
  version = version_after new_nonce (latest_version 1 (history_of s));
  nonce = nonce_after new_nonce (latest_nonce s.nonce (history_of s));
  registry = after (latest_registry (history_of s)) ops;
}

-- the update rotates the nonce to this one and has version 2, or it keeps the latest nonce and version
pub record RotatesTo (s : State) (new_nonce : Option Octets) (p : Prepared) : Type 0 where
  pub version : p.version ≡ version_after new_nonce (latest_version 1 (history_of s))
  pub nonce : p.nonce.0 ≡ nonce_after new_nonce (latest_nonce s.nonce (history_of s))

-- the update was prepared from a directory in this state
pub record IsUpdate (hash index_of : Octets → Octets) (s : State) (p : Prepared) : Type 0 where
  pub base : p.base ≡ length s.epochs
  pub counted : last_count s.epochs ≡ length s.records
  pub new_nonce : Option Octets
  pub rotates : RotatesTo s new_nonce p
  pub fits : Fits (length s.nodes) 0 p.part
  pub placed : Placed (records_after s p) p.part
  pub entries : List Numbered
  pub stands : Stands (hashing hash p.nonce.0) (table s.nodes s.records) p.part [] entries
  pub mirrors : Mirrors hash index_of (records_after s p) entries (registry_after s p)

-- the second state is a later one of the same directory
pub record Grows (s t : State) : Type 0 where
  pub nonce : t.nonce ≡ s.nonce
  pub policy : t.policy ≡ s.policy
  pub before : t.before ≡ s.before
  pub nodes : Extends s.nodes t.nodes
  pub longer : length s.nodes ≤ length t.nodes
  pub more_records : List Record
  pub records : t.records ≡ s.records ++ more_records
  pub more_epochs : List Epoch
  pub epochs : t.epochs ≡ s.epochs ++ more_epochs
  pub still : more_epochs ≡ [] → more_records ≡ []

-- the update was prepared from this directory, in this state or an earlier one
pub record IsUpdateOf (hash index_of : Octets → Octets) (s : State) (p : Prepared) : Type 0 where
  pub earlier : State
  pub grows : Grows earlier s
  pub update : IsUpdate hash index_of earlier p

-- an update that was prepared when there were `base` epochs comes next under the number t
pub record ComesNext (s : State) (base t : ℕ) : Type 0 where
  pub fresh : base ≡ length s.epochs
  pub later : latest_epoch (history_of s) < t

-- the error of an update that needs neither a board nor a signer: the first that applies, in their order
abbrev pub IsNotNext : State → ℕ → ℕ → InstallFault → Type 0
IsNotNext s base t (Stale latest) = (latest ≡ latest_epoch (history_of s)) × (base ≢ length s.epochs)
IsNotNext s base t (EpochNotLater latest) = (latest ≡ latest_epoch (history_of s)) × (base ≡ length s.epochs) × (t ≤ latest)
IsNotNext s base t BoardFull = ⊥
IsNotNext s base t OutOfMemory = ComesNext s base t
IsNotNext s base t SignerRefused = ⊥

-- an update that was prepared when there were `base` epochs may be installed
-- under the number t, with this number of heads on a board of this capacity
pub record MayInstall (s : State) (base t published capacity : ℕ) : Type 0 where
  pub next : ComesNext s base t
  pub room : published ≢ capacity

-- the error of a refused update: the first that applies, in their order
abbrev pub IsRefused : State → ℕ → ℕ → ℕ → ℕ → InstallFault → Type 0
IsRefused s base t published capacity (Stale latest) = (latest ≡ latest_epoch (history_of s)) × (base ≢ length s.epochs)
IsRefused s base t published capacity (EpochNotLater latest) = (latest ≡ latest_epoch (history_of s))
    × (base ≡ length s.epochs) × (t ≤ latest)
IsRefused s base t published capacity BoardFull = (base ≡ length s.epochs) × (latest_epoch (history_of s) < t) × (published ≡ capacity)
IsRefused s base t published capacity OutOfMemory = MayInstall s base t published capacity
IsRefused s base t published capacity SignerRefused = MayInstall s base t published capacity

-- the number of refusals of the signer in an install that returned this error
abbrev pub refusals : InstallFault → ℕ
refusals (Stale latest) = 0
refusals (EpochNotLater latest) = 0
refusals BoardFull = 0
refusals OutOfMemory = 0
refusals SignerRefused = 1

-- what a refused install leaves of its signer: requested this body it gave no signature, or it is as it was
abbrev pub LeavesSigner : {S : Type 0} → (S → Octets → Option Signature → S → Type 0) → Body → S → S → InstallFault → Type 0
LeavesSigner signs body old new (Stale latest) = new ≡ old
LeavesSigner signs body old new (EpochNotLater latest) = new ≡ old
LeavesSigner signs body old new BoardFull = new ≡ old
LeavesSigner signs body old new OutOfMemory = new ≡ old
LeavesSigner signs body old new SignerRefused = signs old (body_bytes body) None new

-- why a batch isn't committed: it isn't accepted, or its update is refused, which is never stale
abbrev pub IsCommitFault : (Octets → Octets) → State → List Operation → ℕ → ℕ → ℕ → ℕ → ℕ → CommitFault → Type 0
IsCommitFault index_of s ops depth workers t published capacity (Batch fault) =
    IsBatchFault index_of (latest_registry (history_of s)) ops depth workers fault
IsCommitFault index_of s ops depth workers t published capacity (Install fault) =
    IsAccepted index_of (latest_registry (history_of s)) ops depth workers × IsRefused s (length s.epochs) t published capacity fault

-- the signer refused this many times, made no signature, and has the last entry that it had
abbrev pub HasRefused : {S : Type 0} → (made refused : S → ℕ) → (last : S → Option Entry) → S → S → ℕ → Type 0
HasRefused made refused last old new times = (made new ≡ made old) × (refused new ≡ refused old + times) × (last new ≡ last old)

-- what a refused commit leaves of its signer: a batch that isn't accepted leaves it as it was
abbrev pub CommitLeavesSigner : {S : Type 0} → (S → Octets → Option Signature → S → Type 0) → Body → S → S → CommitFault → Type 0
CommitLeavesSigner signs body old new (Batch fault) = new ≡ old
CommitLeavesSigner signs body old new (Install fault) = LeavesSigner signs body old new fault

-- the number of refusals of the signer in a commit that returned this error
abbrev pub commit_refusals : CommitFault → ℕ
commit_refusals (Batch fault) = 0
commit_refusals (Install fault) = refusals fault
