use Rattle.std.proofs.Common.{◌≡◌, ◌≤◌, ℕ, length, Some, None, ap, arith, ◌∙◌}
use Rattle.coniks_proof.specs.declared.values.TheConstants.{MAX_OPERATIONS}
use Rattle.coniks_directory.specs.SuppliedBatches.{indexed}
use Rattle.coniks_directory.specs.declared.batch.BatchFault.TheVariants.{At}
use Rattle.coniks_directory.specs.declared.batch.OpFault.{OpFault}
use Rattle.coniks_programs.specs.Refusals.{batch_too_long, refusal_of}
use Rattle.coniks_provider.specs.Answers.{because, bindings_added}
use Rattle.coniks_provider.specs.Stores.{restore_by, restore_of}
use Rattle.coniks_provider.specs.Turns.{restore_and, restoring, restoring_refusal}
use Rattle.coniks_provider.proofs.RestoringLemmas.{added, added_reply, added_state, none_bad, placed_error, refused_reply, refused_state, too_many}
use Rattle.coniks_provider.proofs.restoring.Restore.add.Goals.{In-Ok, In_ok-batch_refusal-in-Err}
use Rattle.coniks_provider.proofs.restoring.Restore.add.Goals as goal

pub returns-then-len-gt-MAX_OPERATIONS-clause-reply : goal.returns-then-len-gt-MAX_OPERATIONS-clause-reply
returns-then-len-gt-MAX_OPERATIONS-clause-reply c =
    let read = c.args.read in
    let r = restore_of c.args.self.now in
    let over = c.if-len-gt-MAX_OPERATIONS.true in
    let long = c.len.ensures in
    refused_reply r read.ops.items read.indices.items read.paired (because batch_too_long) (too_many r read.ops.items read.indices.items read.paired (omega (arith, over, long)))

pub returns-then-len-gt-MAX_OPERATIONS-clause-state : goal.returns-then-len-gt-MAX_OPERATIONS-clause-state
returns-then-len-gt-MAX_OPERATIONS-clause-state c =
    let read = c.args.read in
    let r = restore_of c.args.self.now in
    let over = c.if-len-gt-MAX_OPERATIONS.true in
    let long = c.len.ensures in
    refused_state r read.ops.items read.indices.items read.paired (because batch_too_long) (too_many r read.ops.items read.indices.items read.paired (omega (arith, over, long)))

-- the line isn't too long
few : (c : In-Ok) → length c.args.read.ops.items ≤ MAX_OPERATIONS
few c =
    let under = c.if-len-gt-MAX_OPERATIONS.false in
    let long = c.len.ensures in
    omega (arith, under, long)

none_in : (c : In-Ok) → restoring_refusal (restore_of c.args.self.now) (indexed c.args.read.ops.items c.args.read.indices.items) ≡ None
none_in c =
    let read = c.args.read in
    none_bad (restore_of c.args.self.now) read.ops.items read.indices.items read.paired (few c) c.in-Ok.ensures.accepted

added_in : (c : In-Ok) → restore_by c.args.self.now.is_logged c.add_supplied.new.self ≡ restore_and (restore_of c.args.self.now) (indexed c.args.read.ops.items c.args.read.indices.items)
added_in c =
    let read = c.args.read in
    let e = c.in-Ok.ensures in
    added (restore_of c.args.self.now) read.ops.items read.indices.items read.paired c.add_supplied.new.self e.entry
    e.added e.indices

pub returns-in-Ok-clause-reply : goal.returns-in-Ok-clause-reply
returns-in-Ok-clause-reply c =
    let at = (goal.at.returns-in-Ok-clause-reply c).In-Ok in
    let read = c.args.read in
    ap bindings_added c.count.ensures
    ∙ added_reply (restore_of c.args.self.now) read.ops.items read.indices.items read.paired c.add_supplied.new.self (none_in at) (added_in at)

pub returns-in-Ok-clause-state : goal.returns-in-Ok-clause-state
returns-in-Ok-clause-state c =
    let at = (goal.at.returns-in-Ok-clause-state c).In-Ok in
    let read = c.args.read in
    added_state (restore_of c.args.self.now) read.ops.items read.indices.items read.paired c.add_supplied.new.self (none_in at) (added_in at)

-- a binding has an error
bad_in : (c : In_ok-batch_refusal-in-Err) → (position : ℕ) × (error : OpFault) × (c.in-Err.fault ≡ At position error)
    × (restoring_refusal (restore_of c.args.self.now) (indexed c.args.read.ops.items c.args.read.indices.items)
    ≡ Some (because (refusal_of c.in_ok-batch_refusal-in-Err.field-0)))
bad_in c =
    let read = c.args.read in
    let under = c.if-len-gt-MAX_OPERATIONS.false in
    let long = c.len.ensures in
    placed_error (restore_of c.args.self.now) read.ops.items read.indices.items read.paired c.in-Err.fault (refusal_of c.in_ok-batch_refusal-in-Err.field-0) (omega (arith, under, long))
    c.in-Err.ensures.refused c.in_ok-batch_refusal-in-Err.ensures.refusal

pub returns-in_ok-batch_refusal-in-Err-clause-reply : goal.returns-in_ok-batch_refusal-in-Err-clause-reply
returns-in_ok-batch_refusal-in-Err-clause-reply c =
    let at = (goal.at.returns-in_ok-batch_refusal-in-Err-clause-reply c).In_ok-batch_refusal-in-Err in
    let read = c.args.read in
    let bad = bad_in at in
    refused_reply (restore_of c.args.self.now) read.ops.items read.indices.items read.paired _ bad.3

pub returns-in_ok-batch_refusal-in-Err-clause-state : goal.returns-in_ok-batch_refusal-in-Err-clause-state
returns-in_ok-batch_refusal-in-Err-clause-state c =
    let at = (goal.at.returns-in_ok-batch_refusal-in-Err-clause-state c).In_ok-batch_refusal-in-Err in
    let read = c.args.read in
    let bad = bad_in at in
    let is = c.in-Err.is in
    let error = bad.2 in
    let same = c.in-Err.ensures.whole bad.0 bad.1 (cc) in
    ap (λ v. restoring (restore_by c.args.self.now.is_logged v)) same ∙ refused_state (restore_of c.args.self.now) read.ops.items read.indices.items read.paired _ bad.3
