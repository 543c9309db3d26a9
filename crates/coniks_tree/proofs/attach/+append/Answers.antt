use Rattle.std.proofs.Common.{ap, sym, subst, ◌∙◌, ◌≡◌, ◌∷◌, [], rules, arith, length, suc, true, false, ◌≤◌, ◌<◌, ◌-◌, ◌+◌}
use Rattle.coniks_proof.specs.Bits.{child}
use Rattle.coniks_proof.proofs.Lemmas.{length-child}
use Rattle.coniks_tree.specs.Table.{shows_empty, shows_leaf, table}
use Rattle.coniks_tree.specs.Parts.{Fits, Stands, Placed, node_count}
use Rattle.std.proofs.lemmas.Option.{slice_get_within}
use Rattle.coniks_tree.proofs.PushLemmas.{Fits-more, StandsMade, made_shown}
use Rattle.coniks_tree.proofs.attach.+append.Goals as goal

pub append-left-requires : goal.append-left-requires
append-left-requires t c =
    let n = length c.args.nodes.now.items in
    let whole = subst (Fits n c.args.level) c.in-Made.is c.requires.fits in
    let deeper : suc c.args.level ≡ c.args.level + 1 = omega arith in
    let fits : Fits n (c.args.level + 1) c.deref-below.result.now.left =
    rw c.deref-below.ensures (subst (λ k. Fits n k c.in-Made.made.value.left) deeper whole.2) in
    let counted : node_count c.args.part.now ≡ node_count c.deref-below.result.now.left + node_count c.deref-below.result.now.right + 1 =
    rw c.deref-below.ensures (ap node_count c.in-Made.is) in
    let room : n + node_count c.deref-below.result.now.left ≤ c.args.nodes.now.cap = omega (arith, c.requires.room, counted) in
    let short : c.args.level < 256 = whole.0 in
    let smaller : 256 - (c.args.level + 1) < 256 - c.args.level = omega (arith, short) in
    search rules

pub append-right-requires : goal.append-right-requires
append-right-requires t c =
    let n = length c.args.nodes.now.items in
    let m = length c.append-left.new.nodes.items in
    let whole = subst (Fits n c.args.level) c.in-Made.is c.requires.fits in
    let more : n ≤ m = omega (arith, c.append-left.ensures.len) in
    let deeper : suc c.args.level ≡ c.args.level + 1 = omega arith in
    let fits : Fits m (c.args.level + 1) c.deref-below.result.now.right =
    rw c.deref-below.ensures (Fits-more n m (c.args.level + 1) c.in-Made.made.value.right more (subst (λ k. Fits n k c.in-Made.made.value.right) deeper whole.3)) in
    let counted : node_count c.args.part.now ≡ node_count c.deref-below.result.now.left + node_count c.deref-below.result.now.right + 1 =
    rw c.deref-below.ensures (ap node_count c.in-Made.is) in
    let room : m + node_count c.deref-below.result.now.right ≤ c.append-left.new.nodes.cap =
    omega (arith, c.append-left.ensures.len, c.append-left.ensures.room, c.requires.room, counted) in
    let short : c.args.level < 256 = whole.0 in
    let smaller : 256 - (c.args.level + 1) < 256 - c.args.level = omega (arith, short) in
    search rules

pub returns-in-Nothing-clause-shows : goal.returns-in-Nothing-clause-shows
returns-in-Nothing-clause-shows t c = λ by records prefix entries at placed is s.
    let none : entries ≡ [] = subst (λ q. Stands by (table c.args.nodes.now.items records) q prefix entries) c.in-Nothing.is s in
    shows_empty _ _ _ c.args.hash.now c.push_node.ensures.at none is

pub returns-in-Entry-clause-table : goal.returns-in-Entry-clause-table
returns-in-Entry-clause-table t c = λ records placed table.
    let p = subst (Placed records) c.in-Entry.is placed in
    c.push_node-in-Entry.ensures.table records (slice_get_within records c.in-Entry.change.place.0 p.0 p.1) table

pub returns-in-Entry-clause-shows : goal.returns-in-Entry-clause-shows
returns-in-Entry-clause-shows t c = λ by records prefix entries at placed is s.
    let p = subst (Placed records) c.in-Entry.is placed in
    let one = subst (λ q. Stands by (table c.args.nodes.now.items records) q prefix entries) c.in-Entry.is s in
    shows_leaf _ _ _ c.args.hash.now c.in-Entry.change.place p.0 c.push_node-in-Entry.ensures.at p.1 (one ∙ ap (λ e. e ∷ []) (sym p.2)) is

pub returns-in-Made-clause-shows : goal.returns-in-Made-clause-shows
returns-in-Made-clause-shows t c = λ by records prefix entries at placed is s.
    let nodes = c.args.nodes.now.items in
    let short : length prefix < 256 = omega (arith, at, (subst (Fits (length nodes) c.args.level) c.in-Made.is c.requires.fits).0) in
    let placed' = subst (λ m. Placed records m.left × Placed records m.right) (sym c.deref-below.ensures) (subst (Placed records) c.in-Made.is placed) in
    let s' = subst (λ m. StandsMade by (table nodes records) m prefix entries) (sym c.deref-below.ensures) (subst (λ q. Stands by (table nodes records) q prefix entries) c.in-Made.is s) in
    let deep-left : length (child prefix false) ≡ c.args.level + 1 = omega (arith, length-child prefix false, at) in
    let deep-right : length (child prefix true) ≡ c.args.level + 1 = omega (arith, length-child prefix true, at) in
    made_shown by nodes c.append-left.new.nodes.items c.append-right.new.nodes.items c.push_node-in-Made.new.nodes.items records prefix entries
    c.deref-below.result.now c.append-left.result c.append-right.result c.push_node-in-Made.result
    c.append-left.ensures.extends c.append-right.ensures.extends c.push_node-in-Made.ensures.extends c.push_node-in-Made.ensures.at short s'
    (λ l-is l. c.append-left.ensures.shows by records (child prefix false) _ deep-left placed'.0 l-is l)
    (λ r-is r. c.append-right.ensures.shows by records (child prefix true) _ deep-right placed'.1 r-is r)
