use Rattle.std.proofs.Common.{map, subst}
use Rattle.coniks_tree.specs.Trees.{table_of}
use Rattle.coniks_directory.proofs.Words.{AreChangesOf, bound_by}
use Rattle.coniks_directory.proofs.BuiltLemmas.{built}
use Rattle.coniks_tree.specs.Parts.{entries_in}
use Rattle.coniks_directory.proofs.preparing.part_of.Goals as goal

pub returns : goal.returns
returns g c = λ index_of latest registry ops under shown pending committed none.
    let hash = g.H.Hash32.digest_of c.args.origin.now.h.now in
    let tree = c.args.origin.now.stored.now.tree in
    let new = c.args.pending.now in
    let e = c.in_ok-build.ensures in
    let made = c.in_ok-changes.ensures hash index_of (map bound_by ops) pending in
    let at = subst (λ n. AreChangesOf n new.records.items (entries_in c.in_ok-changes.changes.items)) c.records.ensures.count made in
    built hash index_of c.args.ground.now.nonce.0 latest (table_of tree) c.args.ground.now.root registry ops new.records.items new.numbers c.in_ok-changes.changes.items
    c.in_ok-growth.growth _ shown none pending committed at
    c.args.ground.now.is_anew c.in_ok-growth.ensures under
    (record {
      fits = e.fits;
      few = rw c.deref.ensures.value at e.count;
      empty = rw c.deref.ensures.value at e.same;
      placed = rw c.deref.ensures.value at e.placed;
      keeps = e.keeps;
      many = rw c.deref.ensures.value at e.new;
      stands = rw c.deref.ensures.value at e.stands;
    })
