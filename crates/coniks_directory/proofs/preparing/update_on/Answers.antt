use Rattle.std.proofs.Common.{◌≡◌, Err, ap, map, refl, rules, sym, ◌∙◌}
use Rattle.coniks_tree.specs.Table.{table}
use Rattle.coniks_directory.proofs.Words.{RotatesTo, IsBuilt, Nonce, bound_by, history_of, latest_nonce, latest_registry}
use Rattle.coniks_directory.proofs.Words.{operations, option_map, state_of}
use Rattle.coniks_directory.proofs.OrderLemmas.{numbers_within}
use Rattle.coniks_directory.proofs.PrepareLemmas.{is_some-map, latest_retained, update_by}
use Rattle.coniks_directory.proofs.preparing.update_on.Goals.{In-Ok}
use Rattle.coniks_directory.proofs.preparing.update_on.Given as given
use Rattle.coniks_directory.proofs.preparing.update_on.Goals as goal

pub checked-requires-clause-root : goal.checked-requires-clause-root
checked-requires-clause-root g c κs within = (c.latest_root-root.ensures (g.H.Hash32.digest_of c.args.origin.now.h.now) (g.X.IndexSource.index_of c.args.origin.now.source.now) c.requires.whole).known

pub returns-in_err-pending-clause-fault : goal.returns-in_err-pending-clause-fault
returns-in_err-pending-clause-fault g c =
    let index_of = g.X.IndexSource.index_of c.args.origin.now.source.now in
    let registry = latest_registry (history_of (state_of c.args.origin.now.stored.now)) in
    let is : c.from_residual.result ≡ Err c.in_err-pending.field-0.0 = search rules in
    rw is (c.in_err-pending.ensures.fault _ registry ((c.latest_root-root.ensures (g.H.Hash32.digest_of c.args.origin.now.h.now) index_of c.requires.whole).shows _ refl))

pub part_of-requires-clause-root : goal.part_of-requires-clause-root
part_of-requires-clause-root g c κs within = (c.latest_root-root.ensures (g.H.Hash32.digest_of c.args.origin.now.h.now) (g.X.IndexSource.index_of c.args.origin.now.source.now) c.requires.whole).known

pub part_of-requires-clause-numbered : goal.part_of-requires-clause-numbered
part_of-requires-clause-numbered g c κs within =
    let pending = c.in_ok-pending.pending in
    numbers_within (g.H.Hash32.digest_of c.args.origin.now.h.now) (g.X.IndexSource.index_of c.args.origin.now.source.now)
    (map bound_by (operations c.args.ops.items)) pending.records.items pending.numbers c.in_ok-pending.ensures.pending

-- the part is that of the batch on the latest registry
built_in : (g : given.Over) (c : In-Ok g)
    → (let s = state_of c.args.origin.now.stored.now in IsBuilt (g.H.Hash32.digest_of c.args.origin.now.h.now) (g.X.IndexSource.index_of c.args.origin.now.source.now) c.nonce_after-nonce.result.0
    (table s.nodes s.records) c.latest_root-root.result (latest_registry (history_of s)) (operations c.args.ops.items) c.is_some.result c.in-Ok.part c.in_ok-pending.pending.records.items)
built_in g c =
    let index_of = g.X.IndexSource.index_of c.args.origin.now.source.now in
    let s = state_of c.args.origin.now.stored.now in
    let registry = latest_registry (history_of s) in
    let shown = (c.latest_root-root.ensures (g.H.Hash32.digest_of c.args.origin.now.h.now) index_of c.requires.whole).shows _ refl in
    let under = latest_retained c.args.new_nonce c.is_some.result c.nonce_after-nonce.result.0 (latest_nonce s.nonce (history_of s)) c.is_some.ensures
    (rw c.latest_nonce.ensures at c.nonce_after-nonce.ensures) in
    c.in-Ok.ensures index_of _ registry (operations c.args.ops.items) under shown c.in_ok-pending.ensures.pending c.in_ok-pending.ensures.committed (c.in_ok-pending.ensures.faultless _ registry shown)

pub update_of-requires : goal.update_of-requires
update_of-requires g c = record { fits = (built_in g c).fits }

pub returns-in-Ok-update_of-clause-update : goal.returns-in-Ok-update_of-clause-update
returns-in-Ok-update_of-clause-update g c =
    let hash = g.H.Hash32.digest_of c.args.origin.now.h.now in
    let index_of = g.X.IndexSource.index_of c.args.origin.now.source.now in
    let s = state_of c.args.origin.now.stored.now in
    let e = c.in-Ok-update_of.ensures in
    let rotates : RotatesTo s (option_map (λ (n : Nonce). n.0) c.args.new_nonce) c.in-Ok-update_of.update = record {
      version = e.version ∙ rw c.latest_version.ensures at c.version_after-version.ensures;
      nonce = ap (λ (n : Nonce). n.0) e.nonce ∙ rw c.latest_nonce.ensures at c.nonce_after-nonce.ensures;
    } in
    update_by hash index_of s c.requires.whole c.in-Ok-update_of.update c.args.ops.items c.latest_root-root.result (c.latest_root-root.ensures hash index_of c.requires.whole)
    (option_map (λ (n : Nonce). n.0) c.args.new_nonce) c.is_some.result (c.is_some.ensures ∙ sym (is_some-map (λ (n : Nonce). n.0) c.args.new_nonce)) e.base rotates
    (rw (e.nonce, e.part, e.records) (built_in g (goal.at.returns-in-Ok-update_of-clause-update g c).In-Ok))

pub returns-in-Ok-update_of-clause-faultless : goal.returns-in-Ok-update_of-clause-faultless
returns-in-Ok-update_of-clause-faultless g c =
    c.in_ok-pending.ensures.faultless _ (latest_registry (history_of (state_of c.args.origin.now.stored.now)))
    ((c.latest_root-root.ensures (g.H.Hash32.digest_of c.args.origin.now.h.now) (g.X.IndexSource.index_of c.args.origin.now.source.now) c.requires.whole).shows _ refl)
