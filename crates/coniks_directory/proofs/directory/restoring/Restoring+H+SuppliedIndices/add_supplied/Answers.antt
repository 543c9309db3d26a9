use Rattle.std.proofs.Common.{◌≡◌, [], ◌++◌, ℕ, Err, List, None, ap, drop, length, map, rules, subst, sym, take, ◌∙◌}
use Rattle.coniks_directory.proofs.Words.{ArePendingRecords, IsJudgedFaultAfter, bound_by, fault_from, first_fault, operations, registered_of, state_of}
use Rattle.coniks_directory.specs.Restored.{IsRestoring, registration, registrations}
use Rattle.coniks_directory.specs.Supplied.{AgreeOn, Supplied, supplied_index}
use Rattle.coniks_directory.specs.SuppliedBatches.{binding_index, indices_by, indices_in, put_indices}
use Rattle.coniks_directory.specs.declared.pending.PendingRecords.{PendingRecords}
use Rattle.coniks_directory.proofs.PendingLemmas.{by_records}
use Rattle.coniks_directory.proofs.RestoreLemmas.{at_view, bound_registrations, view_is}
use Rattle.coniks_directory.proofs.RestoreIndexLemmas.{first_indices, left_ops, long_enough, more_ops, rest_indices, restoring_less, restoring_more, some_retained}
use Rattle.coniks_directory.proofs.directory.restoring.Restoring+H+SuppliedIndices.add_supplied.Goals.{After-from_residual, In-Ok, In_default}
use Rattle.coniks_directory.proofs.directory.restoring.Restoring+H+SuppliedIndices.add_supplied.Given as given
use Rattle.coniks_directory.proofs.directory.restoring.Restoring+H+SuppliedIndices.add_supplied.Goals as goal

-- ---- a binding has an error: the records are those before the call

retained_pending : (g : given.Over) (c : After-from_residual g) → (let r = c.self.inside in
    ArePendingRecords (g.H.Hash32.digest_of r.h) (supplied_index r.source) (map registered_of r.pending.records.items)
    c.judge_bindings.new.pending.records.items c.judge_bindings.new.pending.numbers)
retained_pending g c =
    let r = c.self.inside in
    c.in_err-judge_bindings.ensures.retained (g.H.Hash32.digest_of r.h) (map registered_of r.pending.records.items) c.self.invariant.pending

retained_ops : (g : given.Over) (c : After-from_residual g) → registrations c.judge_bindings.new.pending.records.items ≡ registrations c.self.inside.pending.records.items
retained_ops g c = ap (map registration) (retained_pending g c).binds

pub invariant_of-self : goal.invariant_of-self
invariant_of-self g c =
    let r = c.self.inside in
    let index_of = supplied_index r.source in
    let i = c.self.invariant in
    record {
      formed = i.formed;
      opened = i.opened;
      pending = by_records (g.H.Hash32.digest_of r.h) index_of _ _ _ (retained_pending g c);
      faultless = ap (first_fault index_of []) (retained_ops g c) ∙ i.faultless;
    }

pub returns-in_err-judge_bindings-clause-refused : goal.returns-in_err-judge_bindings-clause-refused
returns-in_err-judge_bindings-clause-refused g c =
    let r = c.self.inside in
    let bound = map registered_of r.pending.records.items in
    let batch = c.args.batch in
    let ops = operations batch.bindings.items in
    let is : c.from_residual.result ≡ Err c.in_err-judge_bindings.field-0.0 = search rules in
    rw is (at_view (λ xs bs. IsJudgedFaultAfter (binding_index (supplied_index xs) bs batch) [] bs ops c.in_err-judge_bindings.field-0.0) _ _ bound
    c.self.view_is (bound_registrations bound) (c.in_err-judge_bindings.ensures.fault (g.H.Hash32.digest_of r.h) bound c.self.invariant.pending))

pub returns-in_err-judge_bindings-clause-unchanged : goal.returns-in_err-judge_bindings-clause-unchanged
returns-in_err-judge_bindings-clause-unchanged g c =
    let is : c.from_residual.result ≡ Err c.in_err-judge_bindings.field-0.0 = search rules in
    rw is (retained_ops g c ∙ ap (λ v. v.ops) c.self.view_is)

pub returns-in_err-judge_bindings-clause-stored : goal.returns-in_err-judge_bindings-clause-stored
returns-in_err-judge_bindings-clause-stored g c =
    let is : c.from_residual.result ≡ Err c.in_err-judge_bindings.field-0.0 = search rules in
    rw is (0, ap (λ v. v.index) c.self.view_is)

pub returns-in_err-judge_bindings-clause-whole : goal.returns-in_err-judge_bindings-clause-whole
returns-in_err-judge_bindings-clause-whole g c = λ position fault at.
    let r = c.self.inside in
    view_is r.h r.source r.entry _ _ (retained_ops g c) ∙ c.self.view_is

-- ---- no binding has an error

pub supply_since-requires : goal.supply_since-requires
supply_since-requires g c =
    let r = c.self.inside in
    let hash = g.H.Hash32.digest_of r.h in
    let old = r.pending.records.items in
    let new = c.judge_bindings.new.pending in
    let p = c.in_ok-judge_bindings.ensures.pending hash (map registered_of old) c.self.invariant.pending in
    rw c.count-earlier.ensures
    (long_enough hash r.source c.args.batch r.entry (state_of r.stored) old new.records.items _ new.numbers (operations c.args.batch.bindings.items) c.self.invariant p)

some_in : (g : given.Over) (c : In_default g) → (let new = c.judge_bindings.new.pending.records.items in let r = c.self.inside in
    (n : ℕ) × (c.supply_since.new.source ≡ put_indices r.source (indices_in (take n (drop (length r.pending.records.items) new)))))
some_in g c = rw c.count-earlier.ensures at c.in_default.ensures.some

left_in : (g : given.Over) (c : In_default g) → c.supply_since.new.pending.records.items ≡ take (length c.self.inside.pending.records.items) c.judge_bindings.new.pending.records.items
left_in g c = rw c.count-earlier.ensures at c.in_default.ensures.records

pub invariant_of-self-in_default : goal.invariant_of-self-in_default
invariant_of-self-in_default g c =
    let r = c.self.inside in
    let hash = g.H.Hash32.digest_of r.h in
    let old = r.pending.records.items in
    let bound = map registered_of old in
    let batch = c.args.batch in
    let ops = operations batch.bindings.items in
    let new = c.judge_bindings.new.pending in
    let left = c.supply_since.new.pending in
    let p = c.in_ok-judge_bindings.ensures.pending hash bound c.self.invariant.pending in
    let some = some_in g c in
    subst (λ (xs : List Supplied). IsRestoring hash (supplied_index xs) r.entry (state_of r.stored) left.records.items left.numbers) (sym some.1)
    (restoring_less hash r.source batch r.entry (state_of r.stored) old new.records.items _ new.numbers ops c.self.invariant p left.records.items left.numbers some.0 (left_in g c)
    (c.in_default.ensures.pending hash (binding_index (supplied_index r.source) bound batch) (bound ++ map bound_by ops) p))

pub returns-in_default-clause-unchanged : goal.returns-in_default-clause-unchanged
returns-in_default-clause-unchanged g c =
    let r = c.self.inside in
    let hash = g.H.Hash32.digest_of r.h in
    let old = r.pending.records.items in
    let bound = map registered_of old in
    let batch = c.args.batch in
    let ops = operations batch.bindings.items in
    let new = c.judge_bindings.new.pending in
    let left = c.supply_since.new.pending in
    let p = c.in_ok-judge_bindings.ensures.pending hash bound c.self.invariant.pending in
    left_ops hash r.source batch r.entry (state_of r.stored) old new.records.items _ new.numbers ops c.self.invariant p left.records.items left.numbers (some_in g c).0 (left_in g c)
    (c.in_default.ensures.pending hash (binding_index (supplied_index r.source) bound batch) (bound ++ map bound_by ops) p)
    ∙ ap (λ v. v.ops) c.self.view_is

pub returns-in_default-clause-retained : goal.returns-in_default-clause-retained
returns-in_default-clause-retained g c =
    let r = c.self.inside in
    let hash = g.H.Hash32.digest_of r.h in
    let old = r.pending.records.items in
    let bound = map registered_of old in
    let batch = c.args.batch in
    let ops = operations batch.bindings.items in
    let new = c.judge_bindings.new.pending in
    let left = c.supply_since.new.pending in
    let p = c.in_ok-judge_bindings.ensures.pending hash bound c.self.invariant.pending in
    let some = some_in g c in
    at_view (λ xs bs. AgreeOn (supplied_index xs) (supplied_index c.supply_since.new.source) bs) _ _ bound c.self.view_is (bound_registrations bound)
    (subst (λ (ys : List Supplied). AgreeOn (supplied_index r.source) (supplied_index ys) bound) (sym some.1)
    (some_retained hash r.source batch r.entry (state_of r.stored) old new.records.items _ new.numbers ops c.self.invariant p left.records.items left.numbers some.0 (left_in g c)
    (c.in_default.ensures.pending hash (binding_index (supplied_index r.source) bound batch) (bound ++ map bound_by ops) p)))

pub returns-in_default-clause-stored : goal.returns-in_default-clause-stored
returns-in_default-clause-stored g c =
    let r = c.self.inside in
    let hash = g.H.Hash32.digest_of r.h in
    let old = r.pending.records.items in
    let bound = map registered_of old in
    let batch = c.args.batch in
    let ops = operations batch.bindings.items in
    let new = c.judge_bindings.new.pending in
    let p = c.in_ok-judge_bindings.ensures.pending hash bound c.self.invariant.pending in
    let some = some_in g c in
    at_view (λ xs bs. (n : ℕ) × (c.supply_since.new.source ≡ put_indices xs (take n (indices_by (binding_index (supplied_index xs) bs batch) ops))))
    _ _ bound c.self.view_is (bound_registrations bound)
    (some.0, some.1 ∙ ap (put_indices r.source) (first_indices hash r.source batch r.entry (state_of r.stored) old new.records.items _ new.numbers ops c.self.invariant p some.0))

put_in : (g : given.Over) (c : In-Ok g) → (let r = c.self.inside in
    c.supply_since.new.source ≡ put_indices r.source (indices_in (drop (length r.pending.records.items) c.judge_bindings.new.pending.records.items)))
put_in g c = rw c.count-earlier.ensures at c.in-Ok.ensures.put

pub invariant_of-self-2 : goal.invariant_of-self-2
invariant_of-self-2 g c =
    let r = c.self.inside in
    let hash = g.H.Hash32.digest_of r.h in
    let old = r.pending.records.items in
    let bound = map registered_of old in
    let new = c.judge_bindings.new.pending in
    let p = c.in_ok-judge_bindings.ensures.pending hash bound c.self.invariant.pending in
    let none = c.in_ok-judge_bindings.ensures.faultless hash bound c.self.invariant.pending in
    subst (λ (q : PendingRecords). IsRestoring hash (supplied_index c.supply_since.new.source) r.entry (state_of r.stored) q.records.items q.numbers) (sym c.in-Ok.ensures.same)
    (subst (λ (xs : List Supplied). IsRestoring hash (supplied_index xs) r.entry (state_of r.stored) new.records.items new.numbers) (sym (put_in g c))
    (restoring_more hash r.source c.args.batch r.entry (state_of r.stored) old new.records.items _ new.numbers (operations c.args.batch.bindings.items) c.self.invariant p none))

pub returns-clause-added : goal.returns-clause-added
returns-clause-added g c =
    let r = c.self.inside in
    let hash = g.H.Hash32.digest_of r.h in
    let old = r.pending.records.items in
    let bound = map registered_of old in
    let ops = operations c.args.batch.bindings.items in
    let new = c.judge_bindings.new.pending in
    let p = c.in_ok-judge_bindings.ensures.pending hash bound c.self.invariant.pending in
    let none = c.in_ok-judge_bindings.ensures.faultless hash bound c.self.invariant.pending in
    ap (λ (q : PendingRecords). registrations q.records.items) c.in-Ok.ensures.same
    ∙ more_ops hash r.source c.args.batch r.entry (state_of r.stored) old new.records.items _ new.numbers ops c.self.invariant p none
    ∙ ap (λ v. v.ops ++ ops) c.self.view_is

pub returns-clause-accepted : goal.returns-clause-accepted
returns-clause-accepted g c =
    let r = c.self.inside in
    let bound = map registered_of r.pending.records.items in
    let batch = c.args.batch in
    let ops = operations batch.bindings.items in
    at_view (λ xs bs. fault_from (binding_index (supplied_index xs) bs batch) [] bs 0 ops ≡ None) _ _ bound
    c.self.view_is (bound_registrations bound) (c.in_ok-judge_bindings.ensures.faultless (g.H.Hash32.digest_of r.h) bound c.self.invariant.pending)

pub returns-clause-indices : goal.returns-clause-indices
returns-clause-indices g c =
    let r = c.self.inside in
    let hash = g.H.Hash32.digest_of r.h in
    let old = r.pending.records.items in
    let bound = map registered_of old in
    let batch = c.args.batch in
    let ops = operations batch.bindings.items in
    let new = c.judge_bindings.new.pending in
    let p = c.in_ok-judge_bindings.ensures.pending hash bound c.self.invariant.pending in
    at_view (λ xs bs. c.supply_since.new.source ≡ put_indices xs (indices_by (binding_index (supplied_index xs) bs batch) ops)) _ _ bound c.self.view_is (bound_registrations bound)
    (put_in g c ∙ ap (put_indices r.source) (rest_indices hash r.source batch r.entry (state_of r.stored) old new.records.items _ new.numbers ops c.self.invariant p))
