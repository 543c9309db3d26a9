use Rattle.std.proofs.Common.{sym, ap, subst, arith, length, take, [], ◌∷◌, ◌+◌, ◌++◌, ◌<◌, ◌≡◌, Bool, true, false}
use Rattle.std.proofs.lemmas.List.{length-append}
use Rattle.coniks_proof.specs.Bits.{child}
use Rattle.coniks_proof.specs.Entries.{half}
use Rattle.coniks_proof.proofs.Lemmas.{length-child}
use Rattle.coniks_tree.specs.Entries.{AreStored, entries_at, in_order}
use Rattle.coniks_tree.specs.Trees.{table_of}
use Rattle.coniks_tree.proofs.EntriesLemmas.{AreStored-push, Shows-below, Shows-none, Shows-one, in_order-inner, listed-none, listed-one}
use Rattle.coniks_tree.proofs.PageLemmas.{page-all, page-both, page-full}
use Rattle.coniks_tree.proofs.page.+list_first.Goals as goal

pub returns-then-len-most-clause-lists : goal.returns-then-len-most-clause-lists
returns-then-len-most-clause-lists t c = λ by prefix entries stored at s.
    page-full c.args.tree.now.records c.args.listed.now.items c.args.most (in_order c.args.node.level entries) stored c.requires.room
    (omega (arith, c.len.ensures, c.if-len-most.true))

pub returns-in-Empty-clause-lists : goal.returns-in-Empty-clause-lists
returns-in-Empty-clause-lists t c = λ by prefix entries stored at s.
    let records = c.args.tree.now.records in
    let old = entries_at records c.args.listed.now.items in
    page-all records c.args.listed.now.items c.args.most (old ++ in_order c.args.node.level entries) stored c.requires.room
    (listed-none old c.args.node.level entries (Shows-none by (table_of c.args.tree.now) c.args.node.number prefix entries _ c.in-Empty.ensures.at s))

pub returns-in_ok-push-in-Leaf-clause-stored : goal.returns-in_ok-push-in-Leaf-clause-stored
returns-in_ok-push-in-Leaf-clause-stored t c = λ stored.
    subst (AreStored (length c.args.tree.now.records)) (sym c.in_ok-push-in-Leaf.ensures.items)
    (AreStored-push (length c.args.tree.now.records) c.args.listed.now.items c.in-Leaf.place stored (c.in-Leaf.ensures.linked))

pub returns-in_ok-push-in-Leaf-clause-lists : goal.returns-in_ok-push-in-Leaf-clause-lists
returns-in_ok-push-in-Leaf-clause-lists t c = λ by prefix entries stored at s.
    let records = c.args.tree.now.records in
    let old = c.args.listed.now.items in
    let new = c.push.new.self.items in
    let new-is = c.in_ok-push-in-Leaf.ensures.items in
    let one = Shows-one by (table_of c.args.tree.now) c.args.node.number prefix entries c.in-Leaf.place _ c.in-Leaf.ensures.at s in
    let all : AreStored (length records) new = subst (AreStored (length records)) (sym new-is) (AreStored-push (length records) old c.in-Leaf.place stored c.in-Leaf.ensures.linked) in
    page-all records new c.args.most (entries_at records old ++ in_order c.args.node.level entries) all
    (omega (arith, c.len.ensures, c.if-len-most.false, ap length new-is, length-append old (c.in-Leaf.place ∷ [])))
    (listed-one records old new c.in-Leaf.place c.args.node.level entries new-is one.0 one.1)

pub returns-in_ok-list_first-in-Inner-2-clause-lists : goal.returns-in_ok-list_first-in-Inner-2-clause-lists
returns-in_ok-list_first-in-Inner-2-clause-lists t c = λ by prefix entries stored at s.
    let k = c.args.node.level in
    let records = c.args.tree.now.records in
    let below = Shows-below by (table_of c.args.tree.now) c.args.node.number c.in-Inner.left c.in-Inner.right prefix entries _ c.in-Inner.ensures.at s in
    let deeper : (b : Bool) → length (child prefix b) ≡ k + 1 = λ b. omega (arith, length-child prefix b, at) in
    let short : k < 256 = omega (arith, below.short, at) in
    let left = c.in_ok-list_first-in-Inner.ensures.lists by (child prefix false) (half false (length prefix) entries) stored (deeper false) below.left in
    let right = c.in_ok-list_first-in-Inner-2.ensures.lists by (child prefix true) (half true (length prefix) entries)
    (c.in_ok-list_first-in-Inner.ensures.stored stored) (deeper true) below.right in
    let old = entries_at records c.args.listed.now.items in
    let middle = entries_at records c.list_first.new.listed.items in
    let new = entries_at records c.list_first-then-node-lt-MAX_LEVEL.new.listed.items in
    page-both c.args.most old middle new (in_order (k + 1) (half false k entries)) (in_order (k + 1) (half true k entries)) (in_order k entries)
    (subst (λ n. middle ≡ take c.args.most (old ++ in_order (k + 1) (half false n entries))) at left)
    (subst (λ n. new ≡ take c.args.most (middle ++ in_order (k + 1) (half true n entries))) at right)
    (in_order-inner k entries short)
