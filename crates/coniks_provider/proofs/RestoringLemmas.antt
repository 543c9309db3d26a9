-- The bindings that a line adds to a restore, in the terms of its definitions.
use Rattle.std.proofs.Common.{◌≡◌, ◌++◌, ◌<◌, ◌≤◌, ℕ, List, [], length, true, false, refl, sym, ap, ◌∙◌, arith, Option, Some, None}
use Rattle.std.specs.Prelude.{nat_le, option_map}
use Rattle.std.proofs.lemmas.Bool.Decides.{nat_tests}
use Rattle.std.proofs.lemmas.List.{length-map}
use Rattle.coniks_proof.specs.Batches.{Fault, fault_from}
use Rattle.coniks_proof.specs.declared.values.Index.{Index}
use Rattle.coniks_proof.specs.declared.values.TheConstants.{MAX_OPERATIONS}
use Rattle.coniks_directory.specs.Batches.{fault_is, operations}
use Rattle.coniks_directory.specs.Judged.{IsJudgedFaultAfter}
use Rattle.coniks_directory.specs.Restored.{RestoringView}
use Rattle.coniks_directory.specs.Supplied.{Supplied}
use Rattle.coniks_directory.specs.SuppliedBatches.{Indexed, indexed, indices_by, operations_of, put_indices}
use Rattle.coniks_directory.specs.declared.batch.BatchFault.{BatchFault}
use Rattle.coniks_directory.specs.declared.batch.BatchFault.TheVariants as batch
use Rattle.coniks_directory.specs.declared.batch.Op.{Op}
use Rattle.coniks_directory.specs.declared.batch.OpFault.{OpFault}
use Rattle.coniks_programs.specs.Refusals.{Refusal, bad_batch, batch_too_long, refused_as}
use Rattle.coniks_provider.specs.Answers.{ProviderOutcome, because, bindings_added}
use Rattle.coniks_provider.specs.Stores.{restore_by}
use Rattle.coniks_provider.specs.Turns.{Restore, bound_in, restore_and, restoring, restoring_index, restoring_on, restoring_refusal}
use Rattle.coniks_provider.proofs.ServiceLemmas.{indexed_operations}

pub as_long : (ops : List Op) (indices : List Index) → length ops ≡ length indices → length (indexed ops indices) ≡ length ops
as_long ops indices same =
    sym (length-map (indexed ops indices) (λ (x : Indexed). x.op)) ∙ ap length (indexed_operations ops indices same) ∙ length-map ops _

module _ (r : Restore) (bs : List Indexed) where
  pub refused_length : MAX_OPERATIONS < length bs → restoring_refusal r bs ≡ Some (because batch_too_long)
  refused_length many = let off : nat_le (length bs) MAX_OPERATIONS ≡ false = grind (arith, nat_tests) in rw off refl

  few_on : length bs ≤ MAX_OPERATIONS → nat_le (length bs) MAX_OPERATIONS ≡ true
  few_on few = grind (arith, nat_tests)

  pub refused_binding : (position : ℕ) (fault : Fault) → length bs ≤ MAX_OPERATIONS
      → fault_from (restoring_index r bs) [] (bound_in r) 0 (operations_of bs) ≡ Some (position, fault)
      → restoring_refusal r bs ≡ Some (because (bad_batch position fault))
  refused_binding position fault few is = let on = few_on few in rw (on, is) refl

  pub faultless : length bs ≤ MAX_OPERATIONS → fault_from (restoring_index r bs) [] (bound_in r) 0 (operations_of bs) ≡ None → restoring_refusal r bs ≡ None
  faultless few none = let on = few_on few in rw (on, none) refl

-- bindings that come with their indices
module _ (r : Restore) (ops : List Op) (indices : List Index) (paired : length ops ≡ length indices) where
  abbrev pub bs : List Indexed
  bs = indexed ops indices

  same_ops : operations_of bs ≡ operations ops
  same_ops = indexed_operations ops indices paired

  few_bindings : length ops ≤ MAX_OPERATIONS → length bs ≤ MAX_OPERATIONS
  few_bindings few = let long = as_long ops indices paired in omega (arith, long)

  pub too_many : MAX_OPERATIONS < length ops → restoring_refusal r bs ≡ Some (because batch_too_long)
  too_many many = let long = as_long ops indices paired in refused_length r bs (omega (arith, long))

  pub first_bad : (position : ℕ) (fault : Fault) → length ops ≤ MAX_OPERATIONS
      → fault_from (restoring_index r bs) [] (bound_in r) 0 (operations ops) ≡ Some (position, fault)
      → restoring_refusal r bs ≡ Some (because (bad_batch position fault))
  first_bad position fault few is = refused_binding r bs position fault (few_bindings few) (ap (fault_from (restoring_index r bs) [] (bound_in r) 0) same_ops ∙ is)

  -- the error of bindings is at a place
  pub placed_error : (fault : BatchFault) (why : Refusal) → length ops ≤ MAX_OPERATIONS
      → IsJudgedFaultAfter (restoring_index r bs) [] (bound_in r) (operations ops) fault → refused_as fault ≡ Some why
      → (position : ℕ) × (error : OpFault) × (fault ≡ batch.At position error) × (restoring_refusal r bs ≡ Some (because why))
  placed_error batch.Workers why few wrong is = absurd wrong
  placed_error batch.Depth why few wrong is = absurd wrong
  placed_error batch.BatchTooLong why few wrong is = absurd wrong
  placed_error (batch.At position error) why few wrong is =
      (position, error, refl, first_bad position (fault_is error) few wrong ∙ ap (λ (x : Option Refusal). option_map because x) is)
  placed_error batch.OutOfMemory why few wrong is = absurd (let never = is in cc)

  pub none_bad : length ops ≤ MAX_OPERATIONS → fault_from (restoring_index r bs) [] (bound_in r) 0 (operations ops) ≡ None → restoring_refusal r bs ≡ None
  none_bad few none = faultless r bs (few_bindings few) (ap (fault_from (restoring_index r bs) [] (bound_in r) 0) same_ops ∙ none)

  pub added : {H : Type 0} (v : RestoringView H (List Supplied)) → v.entry ≡ r.entry → v.ops ≡ r.ops ++ operations ops
      → v.index ≡ put_indices r.indices (indices_by (restoring_index r bs) (operations ops)) → restore_by r.logged v ≡ restore_and r bs
  added {H} v entry more given = rw (entry, more, given, same_ops) refl

  pub refused_reply : (why : ProviderOutcome) → restoring_refusal r bs ≡ Some why → why ≡ (restoring_on r bs (restoring_refusal r bs)).outcome
  refused_reply why is = rw is refl

  pub refused_state : (why : ProviderOutcome) → restoring_refusal r bs ≡ Some why → restoring r ≡ (restoring_on r bs (restoring_refusal r bs)).state
  refused_state why is = rw is refl

  module _ {H : Type 0} (v : RestoringView H (List Supplied)) (none : restoring_refusal r bs ≡ None) (is : restore_by r.logged v ≡ restore_and r bs) where
    pub added_reply : bindings_added (length v.ops) ≡ (restoring_on r bs (restoring_refusal r bs)).outcome
    added_reply = ap (λ (x : Restore). bindings_added (length x.ops)) is ∙ rw none refl

    pub added_state : restoring (restore_by r.logged v) ≡ (restoring_on r bs (restoring_refusal r bs)).state
    added_state = ap restoring is ∙ rw none refl
