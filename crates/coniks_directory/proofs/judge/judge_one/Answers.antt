use Rattle.std.proofs.Common.{◌≡◌, ◌++◌, ◌∷◌, [], List, ℕ, ap, option_map, subst, sym, ◌∙◌}
use Rattle.coniks_tree.specs.Trees.{table_of}
use Rattle.coniks_directory.proofs.Words.{ArePendingRecords, HolderIs, IsFree, Registered, Registry, ShowsLatest, fault_is, fault_of, operation_of}
use Rattle.coniks_directory.proofs.judge.judge_one.Goals.{After-op_fault}
use Rattle.coniks_directory.proofs.judge.judge_one.Given as given
use Rattle.coniks_directory.proofs.judge.judge_one.Goals as goal

-- `op_fault` returns the error that follows from the registry and the earlier operations
fault_in : (g : given.Over) (c : goal.After-op_fault g) → (hash : List ℕ → List ℕ) (nonce : List ℕ) (registry : Registry) (bound : List Registered)
    → ShowsLatest hash (g.X.IndexSource.index_of c.args.source.now) nonce (table_of c.args.tree.now) c.args.root registry
    → ArePendingRecords hash (g.X.IndexSource.index_of c.args.source.now) bound c.args.pending.now.records.items c.args.pending.now.numbers
    → option_map fault_is c.op_fault.result ≡ fault_of (g.X.IndexSource.index_of c.args.source.now) registry bound (operation_of c.args.op)
fault_in g c hash nonce registry bound shown s =
    let index_of : List ℕ → List ℕ = g.X.IndexSource.index_of c.args.source.now in
    let at : c.index-index.result.0 ≡ index_of c.args.op.name = c.index-index.ensures ∙ ap index_of c.as_slice.ensures in
    c.op_fault.ensures.fault index_of registry bound
    (subst (λ i. HolderIs index_of registry i c.holder_at-present.result) at (c.holder_at-present.ensures hash index_of nonce registry shown))
    (subst (λ i. HolderIs index_of bound i c.holder-earlier.result) at (c.holder-earlier.ensures hash index_of bound s))

pub returns-in-Some-op_fault-clause-fault : goal.returns-in-Some-op_fault-clause-fault
returns-in-Some-op_fault-clause-fault g c = λ hash nonce registry bound shown s.
    ap (option_map fault_is) (sym c.in-Some-op_fault.is) ∙ fault_in g (goal.at.returns-in-Some-op_fault-clause-fault g c).After-op_fault hash nonce registry bound shown s

pub returns-clause-fault : goal.returns-clause-fault
returns-clause-fault g c = λ hash nonce registry bound shown s.
    ap (option_map fault_is) (sym c.in_default-op_fault.is) ∙ fault_in g (goal.at.returns-clause-fault g c).After-op_fault hash nonce registry bound shown s

pub returns-clause-pending : goal.returns-clause-pending
returns-clause-pending g c = λ _ hash bound s.
    let index_of : List ℕ → List ℕ = g.X.IndexSource.index_of c.args.source.now in
    let at : c.index-index.result.0 ≡ index_of c.args.op.name = c.index-index.ensures ∙ ap index_of c.as_slice.ensures in
    let free : IsFree index_of bound c.index-index.result.0 = subst (λ f. HolderIs index_of bound c.index-index.result.0 f) (c.op_fault.ensures.free c.in_default-op_fault.is)
    (c.holder-earlier.ensures hash index_of bound s) in
    let own : IsFree index_of bound c.record_of.result.index.0 = subst (λ i. IsFree index_of bound i) (sym c.record_of.ensures.indexed) free in
    subst (λ (b : Registered). ArePendingRecords hash index_of (bound ++ b ∷ []) c.add.new.self.records.items c.add.new.self.numbers) c.record_of.ensures.binds
    (c.in_ok-add.ensures.pending hash index_of bound s (c.record_of.ensures.drafted index_of at) own)
