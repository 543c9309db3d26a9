use Rattle.std.proofs.Common.{subst, sym}
use Rattle.coniks_proof.specs.Hashing.{hashing}
use Rattle.coniks_tree.specs.Trees.{table_of}
use Rattle.coniks_directory.proofs.Words.{Finds, HolderIs, ShowsLatest, ShowsRegistry}
use Rattle.coniks_directory.proofs.HolderLemmas.{found_none, found_some}
use Rattle.coniks_directory.proofs.conflicts.holder_at.Goals as goal

pub returns-in_err-place : goal.returns-in_err-place
returns-in_err-place c = λ hash index_of nonce registry shown.
    let s : ShowsRegistry hash index_of nonce (table_of c.args.tree.now) c.in_ok-root.field-0.0 registry =
    subst (λ r. ShowsLatest hash index_of nonce (table_of c.args.tree.now) r registry) c.in_ok-root.was shown in
    let finds = subst (λ r. Finds c.args.tree.now.records c.args.index.now.0 r s.entries) c.in_err-place.was (c.find.ensures.finds (hashing hash nonce) s.entries s.shows) in
    subst (λ r. HolderIs index_of registry c.args.index.now.0 r) (sym c.from_residual-in_err-place.ensures)
    (found_none hash index_of nonce (table_of c.args.tree.now) c.in_ok-root.field-0.0 registry s c.args.index.now.0 finds)

pub returns : goal.returns
returns c = λ hash index_of nonce registry shown.
    let s : ShowsRegistry hash index_of nonce (table_of c.args.tree.now) c.in_ok-root.field-0.0 registry =
    subst (λ r. ShowsLatest hash index_of nonce (table_of c.args.tree.now) r registry) c.in_ok-root.was shown in
    let finds = subst (λ r. Finds c.args.tree.now.records c.args.index.now.0 r s.entries) c.in_ok-place.was (c.find.ensures.finds (hashing hash nonce) s.entries s.shows) in
    found_some hash index_of nonce (table_of c.args.tree.now) c.in_ok-root.field-0.0 registry s c.args.index.now.0 c.in_ok-place.place c.record.result.now finds
    c.record.ensures
