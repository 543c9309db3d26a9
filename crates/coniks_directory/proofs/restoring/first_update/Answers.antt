use Rattle.std.proofs.Common.{[], map, refl, subst, sym, List, None, false}
use Rattle.coniks_tree.specs.Table.{table}
use Rattle.coniks_directory.proofs.Words.{ArePendingRecords, IsBuilt, Registered, bound_by, registered_of, state_of}
use Rattle.coniks_directory.specs.Restored.{registrations}
use Rattle.coniks_directory.proofs.OrderLemmas.{numbers_within}
use Rattle.coniks_directory.proofs.CommitmentLemmas.{drafts_within}
use Rattle.coniks_directory.proofs.RestoreLemmas.{bound_registrations, first_built, first_nodes}
use Rattle.coniks_directory.proofs.restoring.first_update.Goals.{In_ok-part}
use Rattle.coniks_directory.proofs.restoring.first_update.Given as given
use Rattle.coniks_directory.proofs.restoring.first_update.Goals as goal

pub commit_records-requires-clause-within : goal.commit_records-requires-clause-within
commit_records-requires-clause-within g c κs within =
    drafts_within (g.H.Hash32.digest_of c.args.origin.now.h.now) (g.X.IndexSource.index_of c.args.origin.now.source.now) _ _ _ c.requires.restoring.pending

pub part_of-requires-clause-numbered : goal.part_of-requires-clause-numbered
part_of-requires-clause-numbered g c κs within =
    let hash = g.H.Hash32.digest_of c.args.origin.now.h.now in
    let index_of = g.X.IndexSource.index_of c.args.origin.now.source.now in
    numbers_within hash index_of (map registered_of c.args.pending.records.items) _ _
    (c.commit_records.ensures.pending hash index_of (map registered_of c.args.pending.records.items) c.requires.restoring.pending)

-- the part is that of the bindings on nothing
built_in : (g : given.Over) (c : In_ok-part g) → (let s = state_of c.args.origin.now.stored.now in
    IsBuilt (g.H.Hash32.digest_of c.args.origin.now.h.now) (g.X.IndexSource.index_of c.args.origin.now.source.now) c.args.entry.now.body.nonce.0
    (table s.nodes s.records) None [] (registrations c.args.pending.records.items) false c.in_ok-part.part c.commit_records.new.self.records.items)
built_in g c =
    let hash = g.H.Hash32.digest_of c.args.origin.now.h.now in
    let index_of = g.X.IndexSource.index_of c.args.origin.now.source.now in
    let records = c.args.pending.records.items in
    let ops = registrations records in
    let committed = c.commit_records.ensures.pending hash index_of (map registered_of records) c.requires.restoring.pending in
    let pending : ArePendingRecords hash index_of (map bound_by ops) c.commit_records.new.self.records.items c.commit_records.new.self.numbers =
    subst (λ (bs : List Registered). ArePendingRecords hash index_of bs c.commit_records.new.self.records.items c.commit_records.new.self.numbers) (sym (bound_registrations (map registered_of records))) committed in
    c.in_ok-part.ensures index_of c.args.entry.now.body.nonce.0 [] ops (λ _. refl) refl pending c.commit_records.ensures.committed c.requires.restoring.faultless

pub update_of-requires : goal.update_of-requires
update_of-requires g c = record { fits = (built_in g c).fits }

pub returns-clause-update : goal.returns-clause-update
returns-clause-update g c =
    let e = c.in_ok-update.ensures in
    (first_built (g.H.Hash32.digest_of c.args.origin.now.h.now) (g.X.IndexSource.index_of c.args.origin.now.source.now) (state_of c.args.origin.now.stored.now)
    c.args.entry.now c.in_ok-update.update (registrations c.args.pending.records.items) c.requires.restoring.opened c.requires.restoring.formed e.base e.version e.nonce
    (rw (e.nonce, e.part, e.records) (built_in g (goal.at.returns-clause-update g c).In_ok-part))).0

pub returns-clause-registry : goal.returns-clause-registry
returns-clause-registry g c =
    let e = c.in_ok-update.ensures in
    (first_built (g.H.Hash32.digest_of c.args.origin.now.h.now) (g.X.IndexSource.index_of c.args.origin.now.source.now) (state_of c.args.origin.now.stored.now)
    c.args.entry.now c.in_ok-update.update (registrations c.args.pending.records.items) c.requires.restoring.opened c.requires.restoring.formed e.base e.version e.nonce
    (rw (e.nonce, e.part, e.records) (built_in g (goal.at.returns-clause-registry g c).In_ok-part))).1

pub returns-clause-nodes : goal.returns-clause-nodes
returns-clause-nodes g c =
    let e = c.in_ok-update.ensures in
    first_nodes (g.X.IndexSource.index_of c.args.origin.now.source.now) c.in_ok-update.update (registrations c.args.pending.records.items)
    (rw e.part (built_in g (goal.at.returns-clause-nodes g c).In_ok-part).counted)
