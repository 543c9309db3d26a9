-- The results of an opened directory, in the terms of its definitions.
use Rattle.std.proofs.Common.{◌≡◌, ◌<◌, ◌≤◌, ◌+◌, ℕ, List, [], ◌∷◌, ◌++◌, length, Bool, true, false, refl, ap, subst, ◌∙◌, arith, Option, Some, None, if◌then◌else◌}
use Rattle.std.specs.Prelude.{is_some, nat_le, nat_lt, not, ◌&&◌, option_map}
use Rattle.std.specs.Str.{bytes_eq}
use Rattle.std.proofs.lemmas.Bool.{false≢true}
use Rattle.std.proofs.lemmas.Bool.Decides.{nat_tests}
use Rattle.std.proofs.lemmas.Slice.Eq.{bytes_eq-Decides}
use Rattle.coniks_proof.specs.Batches.{after, fits}
use Rattle.coniks_proof.specs.Hashing.{hashing}
use Rattle.coniks_proof.specs.Registry.{entries_of, has_name}
use Rattle.coniks_proof.specs.Sha256.{sha256}
use Rattle.coniks_proof.specs.declared.paths.Proof.{Proof}
use Rattle.coniks_proof.specs.declared.values.Index.{Index}
use Rattle.coniks_proof.specs.declared.values.TheConstants.{MAX_NAME, MAX_OPERATIONS}
use Rattle.coniks_chain.specs.Entries.{link_preimage, signed}
use Rattle.coniks_chain.specs.declared.entry.Body.{Body}
use Rattle.coniks_chain.specs.declared.entry.Entry.{Entry}
use Rattle.coniks_directory.specs.Batches.{operation_of, operations}
use Rattle.coniks_directory.specs.History.{Shown, latest_epoch, latest_registry, shown_at}
use Rattle.coniks_directory.specs.Lookups.{IsFound}
use Rattle.coniks_directory.specs.State.{history_of}
use Rattle.coniks_directory.specs.Supplied.{AgreeOn, HasOtherIndex, MaySupply, supplied_index}
use Rattle.coniks_directory.specs.SuppliedBatches.{IsSuppliedFault, IsWithin, indexed, indices_of, operations_of, put_indices, supplied_fault}
use Rattle.coniks_directory.specs.Updates.{RotatesTo, nodes_added, registry_after, shown_after}
use Rattle.coniks_directory.specs.declared.batch.BatchFault.TheVariants as batch
use Rattle.coniks_directory.specs.declared.batch.Op.{Op}
use Rattle.coniks_directory.specs.declared.supplied_batch.SuppliedBatchFault.{SuppliedBatchFault}
use Rattle.coniks_directory.specs.declared.supplied_batch.SuppliedBatchFault.TheVariants.{Batch as OfBatch, OtherIndex}
use Rattle.coniks_directory.specs.declared.update.Prepared.{Prepared}
use Rattle.coniks_programs.specs.Refusals.{bad_name_length, epoch_not_later, unknown_epoch}
use Rattle.coniks_programs.specs.Paths.{path_of, path_to}
use Rattle.coniks_programs.proofs.Lemmas.{path_is}
use Rattle.coniks_programs.specs.Turns.{refused}
use Rattle.coniks_chain.specs.Entries.{body_bytes}
use Rattle.coniks_provider.specs.Answers.{ProviderOutcome, bad_index, because, installed, looked_up, not_abandoned, prepared, replay_differs}
use Rattle.coniks_provider.specs.Claims.{Claim, agrees}
use Rattle.coniks_provider.specs.Stores.{DirectoryView, IsSuppliedRefusable, provided_by, pending_of, supplied_refused_as}
use Rattle.coniks_provider.specs.Turns.{BatchLine, ProviderDirectory, Pending, install_on, installed_with, line_refusal, link_by, may_replace, prepare_on, chain_entry_at, has_other_index, index_with, provider_lookup_at, provider_lookup_with, provider_number_refusal, pending_by, provider_refusal, epoch_next, serving}
use Rattle.coniks_provider.specs.declared.service.Pending.{Pending as Update}

-- ---- lists

pub indexed_operations : (ops : List Op) (indices : List Index) → length ops ≡ length indices → operations_of (indexed ops indices) ≡ operations ops
indexed_operations [] indices same = refl
indexed_operations (x ∷ ops) [] same = absurd (let never = same in cc)
indexed_operations (x ∷ ops) (y ∷ indices) same = ap (λ xs. operation_of x ∷ xs) (indexed_operations ops indices (let less = same in omega arith))

-- ---- why a batch is refused

module _ (o : ProviderDirectory) (b : BatchLine) where
  -- the reason isn't the workers or the depth
  pub refusable : (fault : SuppliedBatchFault) → IsSuppliedFault (supplied_index o.indices) (latest_registry o.history) b.ops fault → IsSuppliedRefusable fault
  refusable (OfBatch batch.Workers) f = f
  refusable (OfBatch batch.Depth) f = f
  refusable (OfBatch batch.BatchTooLong) f = tt
  refusable (OfBatch (batch.At position fault)) f = tt
  refusable (OfBatch batch.OutOfMemory) f = tt
  refusable (OtherIndex position) f = tt

  few_on : length b.ops ≤ MAX_OPERATIONS → nat_le (length b.ops) MAX_OPERATIONS ≡ true
  few_on few = grind (arith, nat_tests)

  pub refused_is : (fault : SuppliedBatchFault) (outcome : ProviderOutcome)
      → IsSuppliedFault (supplied_index o.indices) (latest_registry o.history) b.ops fault → supplied_refused_as fault ≡ Some outcome
      → provider_refusal o b ≡ Some outcome
  refused_is (OfBatch batch.Workers) outcome f is = absurd f
  refused_is (OfBatch batch.Depth) outcome f is = absurd f
  refused_is (OfBatch batch.BatchTooLong) outcome f is =
      let off : nat_le (length b.ops) MAX_OPERATIONS ≡ false = grind (arith, nat_tests) in rw off is
  refused_is (OfBatch (batch.At position fault)) outcome f is = let on = few_on f.0 in rw (on, f.1) is
  refused_is (OfBatch batch.OutOfMemory) outcome f is = absurd (let never = is in cc)
  refused_is (OtherIndex position) outcome f is = let on = few_on f.0 in rw (on, f.1) is

  -- a batch without an error can only be refused for its number
  pub number_is : IsWithin b.ops → supplied_fault (supplied_index o.indices) (latest_registry o.history) b.ops ≡ None → provider_refusal o b ≡ provider_number_refusal o b.epoch
  number_is within none = let on = few_on within in rw (on, none) refl

-- ---- updates

-- the epoch that an update makes is that of its batch
pub shown_is : {H : Type 0} (logged : Bool) (d : DirectoryView H) (pending : Option Update) (b : BatchLine) (p : Prepared)
    → RotatesTo d.state b.new_nonce p → registry_after d.state p ≡ after (latest_registry (history_of d.state)) (operations_of b.ops)
    → shown_after d.state p b.epoch ≡ epoch_next (provided_by logged d pending) b
shown_is {H} logged d pending b p rotates registry = rw (rotates.version, rotates.nonce, registry) refl

-- ---- lookups

-- the indices with one more agree on the registry
pub agree_with : {H : Type 0} (logged : Bool) (d : DirectoryView H) (pending : Option Update) (name index : List ℕ) → MaySupply (supplied_index d.index) (latest_registry (history_of d.state)) name index
    → AgreeOn (supplied_index d.index) (index_with (provided_by logged d pending) name index) (latest_registry (history_of d.state))
agree_with {H} logged d pending name index may other has = (elim (bytes_eq other name) as (λ b. bytes_eq other name ≡ b → supplied_index d.index other ≡ (if b then index else supplied_index d.index other)) [
  | true ↦ λ on. let same = (bytes_eq-Decides other name).0 on in ap (supplied_index d.index) same ∙ may.retained (subst (λ n. has_name (latest_registry (history_of d.state)) n ≡ true) same has)
  | false ↦ λ off. refl
]) refl

pub index_here : (o : ProviderDirectory) (name index : List ℕ) → index_with o name index name ≡ index
index_here o name index = let on : bytes_eq name name ≡ true = (bytes_eq-Decides name name).1 refl in rw on refl

-- a name that may have this index isn't registered with another one
pub not_other : (o : ProviderDirectory) (name index : List ℕ) → MaySupply (supplied_index o.indices) (latest_registry o.history) name index → has_other_index o name index ≡ false
not_other o name index may = (elim (has_name (latest_registry o.history) name) as
    (λ b. has_name (latest_registry o.history) name ≡ b → b && not (bytes_eq (supplied_index o.indices name) index) ≡ false) [
      | true ↦ λ has. let on : bytes_eq (supplied_index o.indices name) index ≡ true = (bytes_eq-Decides (supplied_index o.indices name) index).1 (may.retained has) in rw on refl
      | false ↦ λ _. refl
    ]) refl

pub is_other : (o : ProviderDirectory) (name index : List ℕ) → HasOtherIndex (supplied_index o.indices) (latest_registry o.history) name index → has_other_index o name index ≡ true
is_other o name index other =
    let off : bytes_eq (supplied_index o.indices name) index ≡ false = (elim (bytes_eq (supplied_index o.indices name) index) as (λ b. bytes_eq (supplied_index o.indices name) index ≡ b → b ≡ false) [
      | true ↦ λ on. absurd (other.1 ((bytes_eq-Decides (supplied_index o.indices name) index).0 on))
      | false ↦ λ _. refl
    ]) refl in
    rw (other.0, off) refl

module _ (o : ProviderDirectory) (epoch : ℕ) (name index : List ℕ) where
  pub missed_epoch : shown_at o.history epoch ≡ None → because unknown_epoch ≡ provider_lookup_with (serving o) epoch name index
  missed_epoch none = rw none refl

  pub missed_length : is_some (shown_at o.history epoch) ≡ true → fits MAX_NAME name ≡ false → because bad_name_length ≡ provider_lookup_with (serving o) epoch name index
  missed_length there long = (elim (shown_at o.history epoch) as (λ s. is_some s ≡ true → because bad_name_length ≡ provider_lookup_at o epoch name index s) [
    | None ↦ λ never. absurd (false≢true never)
    | Some shown ↦ λ _. rw long refl
  ]) there

  pub missed_index : is_some (shown_at o.history epoch) ≡ true → fits MAX_NAME name ≡ true → has_other_index o name index ≡ true → bad_index ≡ provider_lookup_with (serving o) epoch name index
  missed_index there sized other = (elim (shown_at o.history epoch) as (λ s. is_some s ≡ true → bad_index ≡ provider_lookup_at o epoch name index s) [
    | None ↦ λ never. absurd (false≢true never)
    | Some shown ↦ λ _. rw (sized, other) refl
  ]) there

  pub found_is : (entry : Entry) (proof : Proof) → chain_entry_at o epoch ≡ Some entry → has_other_index o name index ≡ false → IsFound sha256 (index_with o name index) o.history epoch name proof
      → looked_up entry index name (path_of proof) ≡ provider_lookup_with (serving o) epoch name index
  found_is entry proof at own found =
      let here = index_here o name index in
      let path = path_is (hashing sha256 found.shown.nonce) (entries_of sha256 (index_with o name index) found.shown.registry) (index_with o name index name) proof found.path in
      let is : path_of proof ≡ path_to sha256 (index_with o name index) found.shown.nonce found.shown.registry index =
      path ∙ ap (λ (x : List ℕ). path_to sha256 (index_with o name index) found.shown.nonce found.shown.registry x) here in
      rw (found.installed, found.sized, own, at, is) refl

-- ---- an update that was prepared

-- a number that isn't refused is later
pub number_none : (o : ProviderDirectory) (epoch : ℕ) → provider_number_refusal o epoch ≡ None → latest_epoch o.history < epoch
number_none o epoch none =
    (elim (nat_lt (latest_epoch o.history) epoch) as (λ b. nat_lt (latest_epoch o.history) epoch ≡ b
    → (if b then None else Some (because (epoch_not_later (latest_epoch o.history)))) ≡ None → latest_epoch o.history < epoch) [
      | false ↦ λ _ is. absurd (let never = is in cc)
      | true ↦ λ later _. grind (arith, nat_tests)
    ]) refl none

module _ {H : Type 0} (logged : Bool) (d : DirectoryView H) (was : Option Update) (b : BatchLine) (p : Prepared) (body : Body) (none : line_refusal (provided_by logged d was) b ≡ None)
    (body_is : body ≡ (pending_by (provided_by logged d was) b).body) (shown : shown_after d.state p b.epoch ≡ epoch_next (provided_by logged d was) b)
    (indices : indices_of p ≡ (pending_by (provided_by logged d was) b).indices) (nodes : nodes_added p ≡ (pending_by (provided_by logged d was) b).nodes) where
  abbrev opened : ProviderDirectory
  opened = provided_by logged d was

  abbrev update : Update
  update = record { update = p; body = body }

  pub pending_is : pending_of d update ≡ pending_by opened b
  pending_is =
      let number : body.t ≡ b.epoch = ap (λ (x : Body). x.t) body_is in
      let shown' : shown_after d.state p body.t ≡ epoch_next opened b = ap (shown_after d.state p) number ∙ shown in
      rw (body_is, indices, nodes) (ap (λ (x : Shown). record (pending_by opened b) { shown = x }) (rw body_is at shown'))

  pub prepared_reply : (n : ℕ) → n ≡ nodes_added p → prepared body n ≡ (prepare_on opened b (line_refusal opened b)).outcome
  prepared_reply n is = rw (none, body_is, is, nodes) refl

  pub prepared_state : serving (provided_by logged d (Some update)) ≡ (prepare_on opened b (line_refusal opened b)).state
  prepared_state = rw none (ap (λ (x : Pending). serving (record opened { pending = Some x })) pending_is)

-- ---- an update that was installed

-- the link is none that the line doesn't name
pub install_is : (o : ProviderDirectory) (signature : List ℕ) (link : Claim) (p : Pending) → agrees link (link_by p signature) ≡ true
    → install_on o signature link (Some p) ≡ record { outcome = installed (signed p.body (record { 0 = signature })) (link_by p signature); state = serving (installed_with o p signature) }
install_is o signature link p on = rw on refl

pub install_differs : (o : ProviderDirectory) (signature : List ℕ) (link : Claim) (p : Pending) → agrees link (link_by p signature) ≡ false
    → install_on o signature link (Some p) ≡ refused (serving o) replay_differs
install_differs o signature link p off = rw off refl

module _ {H : Type 0} (logged : Bool) (d e : DirectoryView H) (p : Update) (signature : List ℕ) (link : Claim) (on : agrees link (link_by (pending_of d p) signature) ≡ true) where
  abbrev entry : Entry
  entry = signed p.body (record { 0 = signature })

  pub installed_reply : (pending : Option Update) → pending ≡ Some p
      → installed entry (sha256 (link_preimage entry)) ≡ (install_on (provided_by logged d pending) signature link (option_map (pending_of d) pending)).outcome
  installed_reply pending some = rw (some, on) refl

  pub installed_state : (pending after : Option Update) → pending ≡ Some p → after ≡ None
      → e.state.nonce ≡ d.state.nonce → e.state.policy ≡ d.state.policy → e.state.before ≡ d.state.before → e.index ≡ put_indices d.index (indices_of p.update)
      → history_of e.state ≡ history_of d.state ++ shown_after d.state p.update p.body.t ∷ []
      → e.state.chain ≡ d.state.chain ++ entry ∷ [] → length e.state.nodes ≡ length d.state.nodes + nodes_added p.update
      → serving (provided_by logged e after) ≡ (install_on (provided_by logged d pending) signature link (option_map (pending_of d) pending)).state
  installed_state pending after some none nonce policy before index history chain nodes = rw (some, on, none, nonce, policy, before, index, history, chain, nodes) refl

-- ---- what a line says of its update

module _ (o : ProviderDirectory) (b : BatchLine) where
  pub not_replaced : may_replace o b.claims ≡ false → line_refusal o b ≡ Some not_abandoned
  not_replaced off = rw off refl

  pub batch_first : (why : ProviderOutcome) → may_replace o b.claims ≡ true → provider_refusal o b ≡ Some why → line_refusal o b ≡ Some why
  batch_first why on is = rw (on, is) refl

  pub body_last : may_replace o b.claims ≡ true → provider_refusal o b ≡ None → agrees b.claims.body (body_bytes (pending_by o b).body) ≡ false
      → line_refusal o b ≡ Some replay_differs
  body_last on none off = rw (on, none, off) refl

  pub line_accepted : may_replace o b.claims ≡ true → provider_refusal o b ≡ None → agrees b.claims.body (body_bytes (pending_by o b).body) ≡ true
      → line_refusal o b ≡ None
  line_accepted on none agreed = rw (on, none, agreed) refl

  -- a line is refused as its refusal says
  pub refused_outcome : (why : ProviderOutcome) → line_refusal o b ≡ Some why → why ≡ (prepare_on o b (line_refusal o b)).outcome
  refused_outcome why is = rw is refl

  pub refused_state : (why : ProviderOutcome) → line_refusal o b ≡ Some why → serving o ≡ (prepare_on o b (line_refusal o b)).state
  refused_state why is = rw is refl
