use Rattle.std.proofs.Common.{ap, sym, subst, ◌∙◌, ◌≡◌, ◌+◌, ◌-◌, ◌*◌, ◌≤◌, ◌<◌, length, arith, true, false, []}
use Rattle.std.proofs.lemmas.Bool.Decides.{nat_tests}
use Rattle.std.proofs.lemmas.List.{length-map, nil_from_length}
use Rattle.coniks_proof.specs.Bits.{child}
use Rattle.coniks_proof.specs.Entries.{half}
use Rattle.coniks_proof.proofs.Lemmas.{length-child, overwritten-nothing}
use Rattle.coniks_proof.specs.Changes.{overwritten, AreApart, AreInOrder}
use Rattle.coniks_proof.specs.Hashing.{hashing}
use Rattle.coniks_tree.specs.Trees.{table_of}
use Rattle.coniks_tree.specs.Parts.{Stands, entries_in, entry_of_change, node_count}
use Rattle.coniks_tree.proofs.CountLemmas.{new-one, new-unchanged, new_joined}
use Rattle.coniks_tree.proofs.PartLemmas.{grown_side, count_grown, new_side}
use Rattle.coniks_tree.proofs.growth.+grow_part.Goals as goal

pub returns-then-is_empty-clause-stands : goal.returns-then-is_empty-clause-stands
returns-then-is_empty-clause-stands g t c = λ entries ordered apart s.
    let none : c.args.changes.now ≡ [] = nil_from_length c.args.changes.now (grind (arith, nat_tests, c.is_empty.ensures, c.if-is_empty.true)) in
    let same : entries ≡ overwritten entries (entries_in c.args.changes.now) = sym (ap (λ cs. overwritten entries (entries_in cs)) none ∙ overwritten-nothing entries) in
    subst (Stands (hashing (g.H.Hash32.digest_of c.args.base.now.h.now) c.args.base.now.nonce.now.0) (table_of c.args.base.now.tree.now) c.args.part c.args.prefix.now) same s

pub returns-clause-count : goal.returns-clause-count
returns-clause-count g t c = λ old some.
    let p = c.args.prefix.now in
    let short : length p < 256 = omega (arith, c.only_change.ensures.none c.in_default.is, c.len-level.ensures.len) in
    let left-height : 256 - length c.child.result ≡ 255 - length p = omega (arith, ap length c.child.ensures, length-child p false) in
    let right-height : 256 - length c.child-2.result ≡ 255 - length p = omega (arith, ap length c.child-2.ensures, length-child p true) in
    let both = c.opened-left.ensures.unmade old in
    count_grown c.opened-left.result.0 c.in_ok-left.left c.opened-left.result.1 c.in_ok-right.right (length p)
    (length c.sides.result.0.now) (length c.sides.result.1.now) (length c.args.changes.now) _ short both.0 both.1 c.sides.ensures.all some
    c.in_ok-left.ensures.same (λ o m. subst (λ h. node_count c.in_ok-left.left ≤ 1 + 2 * (h * length c.sides.result.0.now)) left-height (c.in_ok-left.ensures.count o m))
    c.in_ok-right.ensures.same (λ o m. subst (λ h. node_count c.in_ok-right.right ≤ 1 + 2 * (h * length c.sides.result.1.now)) right-height (c.in_ok-right.ensures.count o m))
    c.in_ok-join_parts.ensures.count

pub returns-clause-stands : goal.returns-clause-stands
returns-clause-stands g t c = λ entries ordered apart s.
    let by = hashing (g.H.Hash32.digest_of c.args.base.now.h.now) c.args.base.now.nonce.now.0 in
    let tree = table_of c.args.base.now.tree.now in
    let p = c.args.prefix.now in
    let cs = c.args.changes.now in
    let short : length p < 256 = omega (arith, c.only_change.ensures.none c.in_default.is, c.len-level.ensures.len) in
    let parts = c.opened-left.ensures.stands by p entries (sym c.len-level.ensures.len) s in
    let at = c.len-level.ensures.len in
    let ordered' = subst (λ k. AreInOrder k (entries_in cs)) (sym at) ordered in
    let left = grown_side by tree c.opened-left.result.0 c.in_ok-left.left false p c.child.result entries (entries_in cs) (entries_in c.sides.result.0.now)
    c.child.ensures short (subst (λ k. entries_in c.sides.result.0.now ≡ half false k (entries_in cs)) at (c.sides.ensures.left ordered')) ordered apart
    (c.in_ok-left.ensures.stands (half false (length p) entries))
    (subst (λ k. Stands by tree c.opened-left.result.0 (child p false) (half false k entries)) at parts.0) in
    let right = grown_side by tree c.opened-left.result.1 c.in_ok-right.right true p c.child-2.result entries (entries_in cs) (entries_in c.sides.result.1.now)
    c.child-2.ensures short (subst (λ k. entries_in c.sides.result.1.now ≡ half true k (entries_in cs)) at (c.sides.ensures.right ordered')) ordered apart
    (c.in_ok-right.ensures.stands (half true (length p) entries))
    (subst (λ k. Stands by tree c.opened-left.result.1 (child p true) (half true k entries)) at parts.1) in
    c.in_ok-join_parts.ensures.stands (overwritten entries (entries_in cs)) left right

pub returns-clause-placed : goal.returns-clause-placed
returns-clause-placed g t c = λ all more placed each.
    let both = c.opened-left.ensures.placed all more placed in
    let sides = c.sides.ensures.placed all each in
    c.in_ok-join_parts.ensures.placed all (c.in_ok-left.ensures.placed all more both.0 sides.0) (c.in_ok-right.ensures.placed all more both.1 sides.1)

pub returns-then-is_empty-clause-new : goal.returns-then-is_empty-clause-new
returns-then-is_empty-clause-new g t c = λ old below entries ordered apart s.
    let none : c.args.changes.now ≡ [] = nil_from_length c.args.changes.now (grind (arith, nat_tests, c.is_empty.ensures, c.if-is_empty.true)) in
    new-unchanged _ (table_of c.args.base.now.tree.now) c.args.part c.args.prefix.now (length c.args.prefix.now) entries (entries_in c.args.changes.now)
    (ap entries_in none) old
    (omega (arith, below, ap length none)) s

pub returns-in-Some-clause-new : goal.returns-in-Some-clause-new
returns-in-Some-clause-new g t c = λ old below entries ordered apart s.
    let cs = entries_in c.args.changes.now in
    let left = c.in-Some.ensures.stands _ (table_of c.args.base.now.tree.now) c.args.prefix.now entries
    (subst (λ k. AreApart k (overwritten entries cs)) (sym c.len-level.ensures.len) apart) s in
    sym (new-one (length c.args.prefix.now) entries cs (omega (arith, ap length left)))

pub returns-clause-new : goal.returns-clause-new
returns-clause-new g t c = λ old below entries ordered apart s.
    let by = hashing (g.H.Hash32.digest_of c.args.base.now.h.now) c.args.base.now.nonce.now.0 in
    let tree = table_of c.args.base.now.tree.now in
    let p = c.args.prefix.now in
    let cs = entries_in c.args.changes.now in
    let at = c.len-level.ensures.len in
    let l = c.opened-left.result.0 in
    let r = c.opened-left.result.1 in
    let csl = entries_in c.sides.result.0.now in
    let csr = entries_in c.sides.result.1.now in
    let short : length p < 256 = omega (arith, c.only_change.ensures.none c.in_default.is, at) in
    let some : 0 < length cs = grind (arith, nat_tests, c.is_empty.ensures, c.if-is_empty.false, length-map c.args.changes.now entry_of_change) in
    let unmade = c.opened-left.ensures.unmade old in
    let parts = c.opened-left.ensures.stands by p entries (sym at) s in
    let ordered' = subst (λ k. AreInOrder k cs) (sym at) ordered in
    let on-left = subst (λ k. csl ≡ half false k cs) at (c.sides.ensures.left ordered') in
    let on-right = subst (λ k. csr ≡ half true k cs) at (c.sides.ensures.right ordered') in
    let sl = subst (λ k. Stands by tree l (child p false) (half false k entries)) at parts.0 in
    let sr = subst (λ k. Stands by tree r (child p true) (half true k entries)) at parts.1 in
    new_joined by tree c.in_ok-left.left c.in_ok-right.right (node_count c.in_ok-join_parts.field-0) p entries cs short some
    (new_side by tree l (node_count c.in_ok-left.left) false p c.child.result entries cs csl c.child.ensures short on-left ordered apart
    (c.in_ok-left.ensures.new unmade.0 (omega (arith, ap length c.child.ensures, length-child p false)) (half false (length p) entries)) sl)
    (new_side by tree r (node_count c.in_ok-right.right) true p c.child-2.result entries cs csr c.child-2.ensures short on-right ordered apart
    (c.in_ok-right.ensures.new unmade.1 (omega (arith, ap length c.child-2.ensures, length-child p true)) (half true (length p) entries)) sr)
    (grown_side by tree l c.in_ok-left.left false p c.child.result entries cs csl c.child.ensures short on-left ordered apart
    (c.in_ok-left.ensures.stands (half false (length p) entries)) sl)
    (grown_side by tree r c.in_ok-right.right true p c.child-2.result entries cs csr c.child-2.ensures short on-right ordered apart
    (c.in_ok-right.ensures.stands (half true (length p) entries)) sr)
    c.in_ok-join_parts.ensures.new
