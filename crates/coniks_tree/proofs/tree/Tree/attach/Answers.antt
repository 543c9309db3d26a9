use Rattle.std.proofs.Common.{sym, ap, subst, refl, ◌∙◌, ◌≡◌, ◌++◌, [], rules}
use Rattle.coniks_proof.specs.Hashing.{hashing}
use Rattle.coniks_proof.specs.Tree.{node}
use Rattle.coniks_tree.specs.Table.{table}
use Rattle.coniks_tree.specs.Parts.{Stands, Placed}
use Rattle.coniks_tree.specs.Trees.{TreeView, table_of}
use Rattle.coniks_tree.proofs.PushLemmas.{Extends-append, Stands-records}
use Rattle.coniks_tree.proofs.tree.Tree.attach.Goals as goal

pub returns-clause-shows : goal.returns-clause-shows
returns-clause-shows g c = λ entries s.
    let by = hashing (g.H.Hash32.digest_of c.args.h.now) c.args.nonce.now.0 in
    let nodes = c.self.inside.nodes.items in
    let old = c.self.inside.records.items in
    let all : c.append.new.self.items ≡ old ++ c.args.records.items = search rules in
    let placed : Placed c.append.new.self.items c.args.part = subst (λ rs. Placed rs c.args.part)
    (ap (λ (v : TreeView). v.records ++ c.args.records.items) (sym c.self.view_is) ∙ sym all) c.requires.placed in
    let at_root = subst (λ p. Stands by (table_of c.args.self.now) c.args.part p entries) (sym c.root.ensures) s in
    let is : c.hash_at-hash.result.0 ≡ node by [] entries = c.hash_at-hash.ensures entries at_root ∙ ap (λ p. node by p entries) c.root.ensures in
    let before : Stands by (table nodes old) c.args.part [] entries = subst (λ t. Stands by t c.args.part [] entries) (sym (ap table_of c.self.view_is)) s in
    let more = Stands-records by (table nodes old) (old ++ c.args.records.items) (Extends-append old c.args.records.items) c.args.part [] entries before in
    let whole : Stands by (table nodes c.append.new.self.items) c.args.part [] entries = subst (λ rs. Stands by (table nodes rs) c.args.part [] entries) (sym all) more in
    c.append-2.ensures.shows by c.append.new.self.items [] entries refl placed is whole
