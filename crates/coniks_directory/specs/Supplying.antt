-- What a preparation and an install whose indices are supplied lead to.
use Rattle.std.specs.Prelude.{◌≡◌, List, None, Option, Result, IfErr, IfOk, OnOk}
use Rattle.coniks_proof.specs.Octets.{Octets}
use Rattle.coniks_proof.specs.declared.values.Index.{Index}
use Rattle.coniks_proof.specs.declared.values.Nonce.{Nonce}
use Rattle.coniks_chain.specs.declared.entry.Entry.{Entry}
use Rattle.coniks_threads.specs.declared.parallelism.Parallelism.{Parallelism}
use Rattle.coniks_directory.specs.Batches.{IsAccepted, operations}
use Rattle.coniks_directory.specs.Built.{IsUpdateBy}
use Rattle.coniks_directory.specs.Directories.{index_with, registry}
use Rattle.coniks_directory.specs.History.{nonce_bytes}
use Rattle.coniks_directory.specs.Installs.{AddsSupplied, Follows, IsNextResult, KeepsIndices, LeavesSupplied}
use Rattle.coniks_directory.specs.State.{View}
use Rattle.coniks_directory.specs.Supplied.{Supplied}
use Rattle.coniks_directory.specs.SuppliedBatches.{IsSuppliedFault, IsSuppliedUpdate, IsWithin, indexed, indices_by, indices_of, supplied_fault}
use Rattle.coniks_directory.specs.declared.batch.Op.{Op}
use Rattle.coniks_directory.specs.declared.supplied_batch.SuppliedBatchFault.{SuppliedBatchFault}
use Rattle.coniks_directory.specs.declared.update.InstallFault.{InstallFault}
use Rattle.coniks_directory.specs.declared.update.Prepared.{Prepared}

-- the batch is accepted with these indices and this is its update, or it is the first error that applies
pub record IsSuppliedResult {H X : Type 0} (digest : H → Octets → Octets) (index : X → Octets → Octets) (d : View H X)
    (nonce : Option Nonce) (ops : List Op) (named : List Index) (by : Parallelism) (result : Result Prepared SuppliedBatchFault) : Type 0 where
  pub update : IfOk result (IsUpdateBy (digest d.hash) (index_with index d ops named) d.state (nonce_bytes nonce) ops)
  pub installable : IfOk result (λ p. IsSuppliedUpdate (digest d.hash) (index d.index) d.state p (index_with index d ops named))
  pub indices : IfOk result (λ p. indices_of p ≡ indices_by (index_with index d ops named) (operations ops))
  pub accepted : OnOk result (IsAccepted (index_with index d ops named) (registry d) (operations ops) by.depth by.workers)
  pub within : OnOk result (IsWithin (indexed ops named))
  pub faultless : OnOk result (supplied_fault (index d.index) (registry d) (indexed ops named) ≡ None)
  pub refused : IfErr result (IsSuppliedFault (index d.index) (registry d) (indexed ops named))

-- the update is installed with this entry and its indices are supplied, or it is the first error that applies
pub record InstallsSupplied {H : Type 0} (digest : H → Octets → Octets) (d later : View H (List Supplied))
    (update : Prepared) (entry : Entry) (result : Result (Unit {0}) (InstallFault × Prepared)) : Type 0 where
  pub installed : OnOk result (AddsSupplied digest d later update entry.body.t entry)
  pub outcome : IsNextResult d.state update entry.body.t result
  pub same : KeepsIndices d later
  pub retained : Follows digest d later entry
  pub unchanged : IfErr result (λ r. LeavesSupplied update d later r.0)
