use Rattle.std.proofs.Common.{◌≡◌, List, [], ◌++◌, Err, None, map, refl, rules, subst, sym, ℕ}
use Rattle.coniks_proof.specs.Octets.{Octets}
use Rattle.coniks_directory.proofs.Words.{ArePendingRecords, IsJudgedFaultAfter, Registered, bound_by, fault_from, operations}
use Rattle.coniks_directory.specs.Supplied.{supplied_index}
use Rattle.coniks_directory.specs.SuppliedBatches.{binding_index, given_index}
use Rattle.coniks_directory.proofs.RestoreIndexLemmas.{agree_back, bound_agree, pending_agree}
use Rattle.coniks_directory.proofs.supplied_bindings.judge_bindings.Goals.{After-judge_all}
use Rattle.coniks_directory.proofs.supplied_bindings.judge_bindings.Goals as goal

-- the indices that come with the bindings
fresh_in : (c : After-judge_all) (hash : List ℕ → List ℕ) (bound : List Registered)
    → ArePendingRecords hash (supplied_index c.args.source.now) bound c.args.pending.now.records.items c.args.pending.now.numbers
    → given_index c.in-Ok.fresh (supplied_index c.args.source.now) ≡ binding_index (supplied_index c.args.source.now) bound c.args.batch
fresh_in c hash bound s = rw (c.deref.ensures.value, c.deref-2.ensures.value) at c.in-Ok.ensures hash bound s

-- the earlier records by the indices that come with the bindings
earlier : (c : After-judge_all) (hash : List ℕ → List ℕ) (bound : List Registered)
    → ArePendingRecords hash (supplied_index c.args.source.now) bound c.args.pending.now.records.items c.args.pending.now.numbers
    → ArePendingRecords hash (given_index c.in-Ok.fresh (supplied_index c.args.source.now)) bound c.args.pending.now.records.items c.args.pending.now.numbers
earlier c hash bound s =
    let index_of = supplied_index c.args.source.now in
    subst (λ (f : Octets → Octets). ArePendingRecords hash f bound c.args.pending.now.records.items c.args.pending.now.numbers) (sym (fresh_in c hash bound s))
    (pending_agree hash index_of (binding_index index_of bound c.args.batch) bound _ _ (bound_agree index_of bound c.args.batch) s)

pub returns-in_err-judge_all-clause-fault : goal.returns-in_err-judge_all-clause-fault
returns-in_err-judge_all-clause-fault c =
    let is : c.from_residual.result ≡ Err c.in_err-judge_all.field-0.0 = search rules in
    let ops = operations c.args.batch.bindings.items in
    let later = (goal.at.returns-in_err-judge_all-clause-fault c).After-judge_all in
    rw is (λ hash bound s.
    subst (λ (f : Octets → Octets). IsJudgedFaultAfter f [] bound ops c.in_err-judge_all.field-0.0) (fresh_in later hash bound s)
    (c.in_err-judge_all.ensures.fault hash [] [] bound refl (earlier later hash bound s)))

pub returns-in_err-judge_all-clause-retained : goal.returns-in_err-judge_all-clause-retained
returns-in_err-judge_all-clause-retained c =
    let is : c.from_residual.result ≡ Err c.in_err-judge_all.field-0.0 = search rules in
    let index_of = supplied_index c.args.source.now in
    let later = (goal.at.returns-in_err-judge_all-clause-retained c).After-judge_all in
    rw is (λ hash bound s.
    let f = binding_index index_of bound c.args.batch in
    pending_agree hash f index_of bound _ _ (agree_back index_of f bound (bound_agree index_of bound c.args.batch))
    (subst (λ (g : Octets → Octets). ArePendingRecords hash g bound c.judge_all.new.pending.records.items c.judge_all.new.pending.numbers) (fresh_in later hash bound s)
    (c.in_err-judge_all.ensures.retained hash bound (earlier later hash bound s))))

pub returns-clause-pending : goal.returns-clause-pending
returns-clause-pending c = λ hash bound s.
    let ops = operations c.args.batch.bindings.items in
    let later = (goal.at.returns-clause-pending c).After-judge_all in
    subst (λ (f : Octets → Octets). ArePendingRecords hash f (bound ++ map bound_by ops) c.judge_all.new.pending.records.items c.judge_all.new.pending.numbers)
    (fresh_in later hash bound s) (c.in_ok-judge_all.ensures.pending hash bound (earlier later hash bound s))

pub returns-clause-faultless : goal.returns-clause-faultless
returns-clause-faultless c = λ hash bound s.
    let ops = operations c.args.batch.bindings.items in
    let later = (goal.at.returns-clause-faultless c).After-judge_all in
    subst (λ (f : Octets → Octets). fault_from f [] bound 0 ops ≡ None)
    (fresh_in later hash bound s) (c.in_ok-judge_all.ensures.faultless hash [] [] bound refl (earlier later hash bound s))
