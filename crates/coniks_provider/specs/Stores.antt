-- What a store holds, as a state, and what is true of it.
use Rattle.std.specs.Prelude.{Bool, ◌≡◌, ◌<◌, List, length, IfSome, Option, Some, None, option_map}
use Rattle.coniks_proof.specs.Octets.{Octets}
use Rattle.coniks_proof.specs.Sha256.{sha256}
use Rattle.coniks_chain.specs.Chain.{before_at}
use Rattle.coniks_directory.specs.Chain.{body_of}
use Rattle.coniks_directory.specs.History.{latest_epoch, nonce_bytes}
use Rattle.coniks_directory.specs.Restored.{RestoringView}
use Rattle.coniks_directory.specs.State.{View, history_of}
use Rattle.coniks_directory.specs.Supplied.{Supplied, supplied_index}
use Rattle.coniks_directory.specs.SuppliedBatches.{IsSuppliedUpdate, indices_of, indexed}
use Rattle.coniks_programs.specs.Refusals.{IsRefusable, bad_name_length, refused_as, unknown_epoch}
use Rattle.coniks_directory.specs.declared.bindings.BindingsFault.{BindingsFault}
use Rattle.coniks_directory.specs.declared.bindings.BindingsFault.TheVariants as page
use Rattle.coniks_directory.specs.declared.lookup.LookupAtFault.{LookupAtFault}
use Rattle.coniks_directory.specs.declared.lookup.LookupAtFault.TheVariants as lookup
use Rattle.coniks_directory.specs.declared.restoring.RestoreFault.{RestoreFault}
use Rattle.coniks_directory.specs.declared.restoring.RestoreFault.TheVariants.{NotLater, Version, Malformed, RootDiffers, OutOfMemory}
use Rattle.coniks_directory.specs.declared.supplied_batch.SuppliedBatchFault.{SuppliedBatchFault}
use Rattle.coniks_directory.specs.declared.supplied_batch.SuppliedBatchFault.TheVariants.{Batch as OfBatch, OtherIndex}
use Rattle.coniks_directory.specs.Updates.{base_of, nodes_added, shown_after}
use Rattle.coniks_programs.specs.Turns.{refused}
use Rattle.coniks_provider.specs.Answers.{ProviderOutcome, bad_index, bad_version, because, malformed, not_later, other_index_at, provider_outcome_of, restore_begun, root_differs}
use Rattle.coniks_provider.specs.Turns.{BatchLine, ProviderDirectory, Pending, ProviderState, ProviderTurn, Restore, nothing, restoring, serving}
use Rattle.coniks_provider.specs.declared.batch.ReadBatch.{ReadBatch}
use Rattle.coniks_provider.specs.declared.restoring.Beginning.{Beginning}
use Rattle.coniks_provider.specs.declared.restoring.Beginning.TheVariants.{Begun, Refused}
use Rattle.coniks_provider.specs.declared.restoring.Restore.{Restore as Restoring}
use Rattle.coniks_provider.specs.declared.service.Pending.{Pending as Update}
use Rattle.coniks_provider.specs.declared.service.Service.{Service}
use Rattle.coniks_provider.specs.declared.stage.Stage.{Stage}
use Rattle.coniks_provider.specs.declared.stage.Stage.TheVariants as stage

-- a directory as its contracts see it, over the indices that were supplied
abbrev pub DirectoryView : Type 0 → Type 0
DirectoryView H = View H (List Supplied)

-- a batch that was read
abbrev pub batch_line_of : ReadBatch → BatchLine
batch_line_of line = record {
  epoch = line.epoch;
  new_nonce = nonce_bytes line.batch.nonce;
  ops = indexed line.batch.ops.items line.batch.indices.items;
  claims = record { body = line.body; abandons = line.abandons };
}

-- an update of a directory
abbrev pub pending_of : {H : Type 0} → DirectoryView H → Update → Pending
pending_of {H} d p = record {
  body = p.body;
  shown = shown_after d.state
      p.update p.body.t;
  indices = indices_of p.update;
  nodes = nodes_added p.update;
}

-- what an opened directory holds
abbrev pub provided_by : {H : Type 0} → Bool → DirectoryView H → Option Update → ProviderDirectory
provided_by {H} logged d pending = record {
  logged = logged;
  nonce = d.state.nonce;
  policy = d.state.policy;
  before = d.state.before;
  indices = d.index;
  history = history_of d.state;
  chain = d.state.chain;
  nodes = length d.state.nodes;
  pending = option_map (pending_of d) pending;
}

abbrev pub provided_of : Service → ProviderDirectory
provided_of s = provided_by s.is_logged s.directory s.pending

-- what a restore that has begun holds
abbrev pub restore_by : {H : Type 0} → Bool → RestoringView H (List Supplied) → Restore
restore_by {H} logged v = record { logged = logged; entry = v.entry; ops = v.ops; indices = v.index }

abbrev pub restore_of : Restoring → Restore
restore_of r = restore_by r.is_logged r.restoring

-- it isn't a restore
abbrev pub IsNotRestoring : Stage → Type 0
IsNotRestoring (stage.Restoring r) = ⊥
IsNotRestoring _ = Unit {0}

abbrev pub provider_state_of : Stage → ProviderState
provider_state_of stage.Nothing = nothing
provider_state_of (stage.Restoring r) = restoring (restore_of r)
provider_state_of (stage.Open s) = serving (provided_of s)

-- the update can be installed, under the number that its body has
pub record IsPending {H : Type 0} (d : DirectoryView H) (p : Update) : Type 0 where
  pub index : Octets → Octets
  pub supplied : IsSuppliedUpdate sha256 (supplied_index d.index) d.state p.update index
  pub fresh : base_of p.update ≡ length d.state.epochs
  pub later : latest_epoch (history_of d.state) < p.body.t
  pub body : p.body ≡ body_of sha256 index d.state.policy
      (before_at sha256 d.state.before d.state.chain (length d.state.chain)) (shown_after d.state p.update p.body.t)

-- what is pending in a directory that is open can be installed
abbrev pub IsServing : Service → Type 0
IsServing s = IfSome s.pending (IsPending s.directory)

abbrev pub IsServingIf : Stage → Type 0
IsServingIf stage.Nothing = Unit {0}
IsServingIf (stage.Restoring r) = Unit {0}
IsServingIf (stage.Open s) = IsServing s

-- the error of a batch, as a reply; none if an allocation failed
abbrev pub supplied_refused_as : SuppliedBatchFault → Option ProviderOutcome
supplied_refused_as (OfBatch fault) = option_map because (refused_as fault)
supplied_refused_as (OtherIndex position) = Some (other_index_at position)

-- it isn't the number of workers or the depth
abbrev pub IsSuppliedRefusable : SuppliedBatchFault → Type 0
IsSuppliedRefusable (OfBatch fault) = IsRefusable fault
IsSuppliedRefusable (OtherIndex position) = Unit {0}

-- the error of a lookup, as a reply; none if an allocation failed
abbrev pub lookup_refused_as : LookupAtFault → Option ProviderOutcome
lookup_refused_as lookup.UnknownEpoch = Some (because unknown_epoch)
lookup_refused_as lookup.NameLength = Some (because bad_name_length)
lookup_refused_as lookup.OtherIndex = Some bad_index
lookup_refused_as lookup.OutOfMemory = None

-- the error of a page, as a reply; none if an allocation failed
abbrev pub page_refused_as : BindingsFault → Option ProviderOutcome
page_refused_as page.UnknownEpoch = Some (because unknown_epoch)
page_refused_as page.OutOfMemory = None

-- the error of a restore, as a reply; none if an allocation failed
abbrev pub restore_refused_as : RestoreFault → Option ProviderOutcome
restore_refused_as NotLater = Some not_later
restore_refused_as Version = Some bad_version
restore_refused_as Malformed = Some malformed
restore_refused_as RootDiffers = Some root_differs
restore_refused_as OutOfMemory = None

-- a restore that begins, or the refusal of its entry
abbrev pub begun_turn : Beginning → ProviderTurn
begun_turn (Begun r) = record { outcome = restore_begun; state = restoring (restore_of r) }
begun_turn (Refused reply) = refused nothing (provider_outcome_of reply)
