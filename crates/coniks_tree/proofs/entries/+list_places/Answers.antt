use Rattle.std.proofs.Common.{sym, subst, arith, length, ◌+◌, ◌++◌, ◌<◌, ◌≡◌, Bool, true, false}
use Rattle.coniks_proof.specs.Bits.{child}
use Rattle.coniks_proof.specs.Entries.{half}
use Rattle.coniks_tree.specs.Trees.{table_of}
use Rattle.coniks_proof.proofs.Lemmas.{length-child}
use Rattle.coniks_tree.specs.Entries.{AreStored, entries_at, in_order}
use Rattle.coniks_tree.proofs.EntriesLemmas.{AreStored-push, Shows-below, Shows-none, Shows-one, listed-none, listed-one, listed-both}
use Rattle.coniks_tree.proofs.entries.+list_places.Goals as goal

pub returns-in-Empty-clause-lists : goal.returns-in-Empty-clause-lists
returns-in-Empty-clause-lists t c = λ by prefix entries at s.
    listed-none (entries_at c.args.tree.now.records c.args.listed.now.items) c.args.node.level entries
    (Shows-none by (table_of c.args.tree.now) c.args.node.number prefix entries _ c.in-Empty.ensures.at s)

pub returns-in_ok-push-in-Leaf-clause-stored : goal.returns-in_ok-push-in-Leaf-clause-stored
returns-in_ok-push-in-Leaf-clause-stored t c = λ stored.
    subst (AreStored (length c.args.tree.now.records)) (sym c.in_ok-push-in-Leaf.ensures.items)
    (AreStored-push (length c.args.tree.now.records) c.args.listed.now.items c.in-Leaf.place stored (c.in-Leaf.ensures.linked))

pub returns-in_ok-push-in-Leaf-clause-lists : goal.returns-in_ok-push-in-Leaf-clause-lists
returns-in_ok-push-in-Leaf-clause-lists t c = λ by prefix entries at s.
    let one = Shows-one by (table_of c.args.tree.now) c.args.node.number prefix entries c.in-Leaf.place _ c.in-Leaf.ensures.at s in
    listed-one c.args.tree.now.records c.args.listed.now.items c.push.new.self.items c.in-Leaf.place c.args.node.level entries c.in_ok-push-in-Leaf.ensures.items one.0 one.1

pub returns-in_ok-list_places-in-Inner-2-clause-lists : goal.returns-in_ok-list_places-in-Inner-2-clause-lists
returns-in_ok-list_places-in-Inner-2-clause-lists t c = λ by prefix entries at s.
    let k = c.args.node.level in
    let below = Shows-below by (table_of c.args.tree.now) c.args.node.number c.in-Inner.left c.in-Inner.right prefix entries _ c.in-Inner.ensures.at s in
    let deeper : (b : Bool) → length (child prefix b) ≡ k + 1 = λ b. omega (arith, length-child prefix b, at) in
    let short : k < 256 = omega (arith, below.short, at) in
    let left = c.in_ok-list_places-in-Inner.ensures.lists by (child prefix false) (half false (length prefix) entries) (deeper false) below.left in
    let right = c.in_ok-list_places-in-Inner-2.ensures.lists by (child prefix true) (half true (length prefix) entries) (deeper true) below.right in
    let old = entries_at c.args.tree.now.records c.args.listed.now.items in
    let middle = entries_at c.args.tree.now.records c.list_places.new.listed.items in
    let new = entries_at c.args.tree.now.records c.list_places-then-node-lt-MAX_LEVEL.new.listed.items in
    listed-both old middle new k entries short
    (subst (λ n. middle ≡ old ++ in_order (k + 1) (half false n entries)) at left)
    (subst (λ n. new ≡ middle ++ in_order (k + 1) (half true n entries)) at right)
