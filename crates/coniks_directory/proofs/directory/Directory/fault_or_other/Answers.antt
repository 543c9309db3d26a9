use Rattle.std.proofs.Common.{◌≡◌, Some, ap, refl, subst}
use Rattle.coniks_directory.proofs.Words.{IsJudgedFault, Registry, View, history_of, latest_registry, operations, state_of}
use Rattle.coniks_directory.specs.SuppliedBatches.{earliest, given_index}
use Rattle.coniks_directory.proofs.SuppliedBatchLemmas.{other_judged, reported_earliest}
use Rattle.coniks_directory.proofs.directory.Directory.fault_or_other.Goals as goal

pub judged-requires : goal.judged-requires
judged-requires g c =
    let d = c.self.inside in
    let it = c.args.indices.now in
    (c.latest_root-root.ensures (g.H.Hash32.digest_of d.h) (given_index it.fresh (g.X.IndexSource.index_of it.source.now)) (rw (← c.self.view_is) at c.requires)).known

pub returns-in_default : goal.returns-in_default
returns-in_default g c =
    let d = c.self.inside in
    let it = c.args.indices.now in
    let index = given_index it.fresh (g.X.IndexSource.index_of it.source.now) in
    let registry = latest_registry (history_of (state_of d.stored)) in
    let shown = (c.latest_root-root.ensures (g.H.Hash32.digest_of d.h) index (rw (← c.self.view_is) at c.requires)).shows _ refl in
    rw (← c.self.view_is) (ap (λ f. earliest f (Some c.args.place)) (c.in_default.ensures.faultless _ _ registry shown))

pub returns-in-At : goal.returns-in-At
returns-in-At g c =
    let d = c.self.inside in
    let it = c.args.indices.now in
    let index = given_index it.fresh (g.X.IndexSource.index_of it.source.now) in
    let registry = latest_registry (history_of (state_of d.stored)) in
    let shown = (c.latest_root-root.ensures (g.H.Hash32.digest_of d.h) index (rw (← c.self.view_is) at c.requires)).shows _ refl in
    let first = rw c.in-At.is at c.in-Err.ensures.fault _ _ registry shown in
    rw (← c.self.view_is) (reported_earliest index registry (operations c.args.ops.items) c.args.place c.earlier_of.result _ c.earlier_of.ensures (ap (λ f. earliest f (Some c.args.place)) first))

pub returns-in_default-fault : goal.returns-in_default-fault
returns-in_default-fault g c =
    let d = c.self.inside in
    let it = c.args.indices.now in
    let index = given_index it.fresh (g.X.IndexSource.index_of it.source.now) in
    let registry = latest_registry (history_of (state_of d.stored)) in
    let registry' = latest_registry (history_of c.args.self.now.state) in
    let same : registry ≡ registry' = ap (λ (v : View _ _). latest_registry (history_of v.state)) c.self.view_is in
    let ops = operations c.args.ops.items in
    let shown = (c.latest_root-root.ensures (g.H.Hash32.digest_of d.h) index (rw (← c.self.view_is) at c.requires)).shows _ refl in
    other_judged index registry' ops c.args.place c.in-Err.fault c.in_default-fault.not-At
    (subst (λ (r : Registry). IsJudgedFault index r ops c.in-Err.fault) same (c.in-Err.ensures.fault _ _ registry shown))
