use Rattle.std.proofs.Common.{sym, ap, subst, arith, length, take, ◌+◌, ◌++◌, ◌∙◌, ◌<◌, ◌≡◌, Bool, true, false}
use Rattle.coniks_proof.specs.Bits.{child}
use Rattle.coniks_proof.specs.Entries.{half}
use Rattle.coniks_proof.proofs.Lemmas.{length-child}
use Rattle.coniks_tree.specs.Entries.{entries_at, in_order}
use Rattle.coniks_tree.specs.Pages.{beyond_from}
use Rattle.coniks_tree.specs.Table.{entry_of_record}
use Rattle.coniks_tree.specs.Trees.{table_of}
use Rattle.coniks_tree.proofs.EntriesLemmas.{Shows-below, Shows-none, in_order-few}
use Rattle.coniks_tree.proofs.PathLemmas.{Shows-record}
use Rattle.coniks_tree.proofs.PageLemmas.{beyond-left, beyond-none, beyond-one, beyond-right, page-both, page-none}
use Rattle.coniks_tree.proofs.page.+list_beyond.Goals as goal

pub returns-in-Empty-clause-lists : goal.returns-in-Empty-clause-lists
returns-in-Empty-clause-lists t c = λ by prefix entries stored at s.
    page-none c.args.tree.now.records c.args.listed.now.items c.args.most _ stored c.requires.room
    (beyond-none c.args.node.level c.args.after.now.0 entries (Shows-none by (table_of c.args.tree.now) c.args.node.number prefix entries _ c.in-Empty.ensures.at s))

pub returns-in_ok-list_first-in-Leaf-clause-lists : goal.returns-in_ok-list_first-in-Leaf-clause-lists
returns-in_ok-list_first-in-Leaf-clause-lists t c = λ by prefix entries stored at s.
    let k = c.args.node.level in
    let records = c.args.tree.now.records in
    let found = c.record.result.now in
    let old = entries_at records c.args.listed.now.items in
    let one = Shows-record by (table_of c.args.tree.now) prefix entries c.args.node.number c.in-Leaf.place c.in-Leaf.field-1 found c.in-Leaf.ensures.at c.record.ensures s in
    let list = in_order-few k entries (omega (arith, ap length one)) in
    c.in_ok-list_first-in-Leaf.ensures.lists by prefix entries stored at s
    ∙ ap (λ xs. take c.args.most (old ++ xs)) (list ∙ sym (beyond-one k c.args.after.now.0 entries (entry_of_record c.in-Leaf.place.0 found) true one (sym c.if-is_less_from.ensures)))

pub returns-else-is_less_from-clause-lists : goal.returns-else-is_less_from-clause-lists
returns-else-is_less_from-clause-lists t c = λ by prefix entries stored at s.
    let found = c.record.result.now in
    let one = Shows-record by (table_of c.args.tree.now) prefix entries c.args.node.number c.in-Leaf.place c.in-Leaf.field-1 found c.in-Leaf.ensures.at c.record.ensures s in
    page-none c.args.tree.now.records c.args.listed.now.items c.args.most _ stored c.requires.room
    (beyond-one c.args.node.level c.args.after.now.0 entries (entry_of_record c.in-Leaf.place.0 found) false one (sym c.if-is_less_from.ensures))

pub returns-in_ok-list_beyond-in-Inner-clause-lists : goal.returns-in_ok-list_beyond-in-Inner-clause-lists
returns-in_ok-list_beyond-in-Inner-clause-lists t c = λ by prefix entries stored at s.
    let k = c.args.node.level in
    let x = c.args.after.now.0 in
    let records = c.args.tree.now.records in
    let below = Shows-below by (table_of c.args.tree.now) c.args.node.number c.in-Inner.lesser c.in-Inner.greater prefix entries _ c.in-Inner.ensures.at s in
    let deeper : length (child prefix true) ≡ k + 1 = omega (arith, length-child prefix true, at) in
    let short : k < 256 = omega (arith, below.short, at) in
    let right = c.in_ok-list_beyond-in-Inner.ensures.lists by (child prefix true) (half true (length prefix) entries) stored deeper below.right in
    let old = entries_at records c.args.listed.now.items in
    let new = entries_at records c.list_beyond.new.listed.items in
    subst (λ n. new ≡ take c.args.most (old ++ beyond_from (k + 1) x (in_order (k + 1) (half true n entries)))) at right
    ∙ ap (λ xs. take c.args.most (old ++ xs)) (sym (beyond-right k x entries short (sym c.if-bit.ensures)))

pub returns-in_ok-list_first-in-Inner-clause-lists : goal.returns-in_ok-list_first-in-Inner-clause-lists
returns-in_ok-list_first-in-Inner-clause-lists t c = λ by prefix entries stored at s.
    let k = c.args.node.level in
    let x = c.args.after.now.0 in
    let records = c.args.tree.now.records in
    let below = Shows-below by (table_of c.args.tree.now) c.args.node.number c.in-Inner.lesser c.in-Inner.greater prefix entries _ c.in-Inner.ensures.at s in
    let deeper : (b : Bool) → length (child prefix b) ≡ k + 1 = λ b. omega (arith, length-child prefix b, at) in
    let short : k < 256 = omega (arith, below.short, at) in
    let left = c.in_ok-list_beyond-in-Inner-2.ensures.lists by (child prefix false) (half false (length prefix) entries) stored (deeper false) below.left in
    let right = c.in_ok-list_first-in-Inner.ensures.lists by (child prefix true) (half true (length prefix) entries)
    (c.in_ok-list_beyond-in-Inner-2.ensures.stored stored) (deeper true) below.right in
    let old = entries_at records c.args.listed.now.items in
    let middle = entries_at records c.list_beyond-else-bit.new.listed.items in
    let new = entries_at records c.list_first-else-bit.new.listed.items in
    page-both c.args.most old middle new (beyond_from (k + 1) x (in_order (k + 1) (half false k entries))) (in_order (k + 1) (half true k entries))
    (beyond_from k x (in_order k entries))
    (subst (λ n. middle ≡ take c.args.most (old ++ beyond_from (k + 1) x (in_order (k + 1) (half false n entries)))) at left)
    (subst (λ n. new ≡ take c.args.most (middle ++ in_order (k + 1) (half true n entries))) at right)
    (beyond-left k x entries short (sym c.if-bit.ensures))
