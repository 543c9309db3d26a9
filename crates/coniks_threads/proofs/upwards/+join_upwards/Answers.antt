use Rattle.std.proofs.Common.{subst, ◌≡◌, ◌<◌, ◌≤◌, ◌-◌, ◌++◌, ℕ, List, [], length, ap, sym, ◌∙◌, arith, true, false}
use Rattle.std.proofs.lemmas.Bool.Decides.{nat_tests}
use Rattle.std.proofs.lemmas.List.{nil_from_length, length-map, same_from_push}
use Rattle.coniks_proof.specs.Hashing.{hashing}
use Rattle.coniks_tree.specs.Trees.{table_of}
use Rattle.coniks_proof.proofs.Lemmas.{length-child}
use Rattle.coniks_tree.specs.Parts.{entries_in, entry_of_change}
use Rattle.coniks_tree.specs.declared.part.Part.{Part}
use Rattle.coniks_threads.specs.Grown.{AreNewParts, IsNewPart}
use Rattle.coniks_threads.proofs.GrownLemmas.{OnSides, grown_as, grown_one, grown_sides, joined_grown, old_grown}
use Rattle.coniks_threads.proofs.upwards.+join_upwards.Given as given
use Rattle.coniks_threads.proofs.upwards.+join_upwards.Goals as goal
use Rattle.coniks_threads.proofs.upwards.+join_upwards.Goals.{After-sides}

-- ---- no changes, or the split depth

pub returns-then-is_empty-clause-grown : goal.returns-then-is_empty-clause-grown
returns-then-is_empty-clause-grown g t c =
    let none : c.args.changes.now ≡ [] = nil_from_length c.args.changes.now (grind (arith, nat_tests, c.is_empty.ensures, c.if-is_empty.true)) in
    let old = c.old_part.ensures in
    rw none (old_grown _ _ _ c.args.prefix.now c.old_part.result old.unmade old.fits old.count old.keeps old.placed
    (old.stands (hashing (g.H.Hash32.digest_of c.args.old.now.h.now) c.args.old.now.nonce.now.0)))

pub returns-then-level-depth-clause-grown : goal.returns-then-level-depth-clause-grown
returns-then-level-depth-clause-grown g t c =
    let p = c.args.prefix.now in
    let some : 0 < length (entries_in c.args.changes.now) =
    grind (arith, nat_tests, c.is_empty.ensures, c.if-is_empty.false, length-map c.args.changes.now entry_of_change) in
    let same : length p ≡ c.args.depth = omega (arith, c.len-level.ensures.len, c.if-level-depth.true) in
    let r = c.requires.parts in
    -- the prefix has one part, which is the last one
    let one = grown_one (hashing (g.H.Hash32.digest_of c.args.old.now.h.now) c.args.old.now.nonce.now.0) (table_of c.args.old.now.tree.now) c.args.old.now.root
    c.args.depth p (entries_in c.args.changes.now) r.1 same some r.3 in
    let last = same_from_push r.0 c.last_part.new.parts.items one.0 c.last_part.result (sym (r.2 ∙ ap (λ l. r.0 ++ l) one.1) ∙ c.last_part.ensures) in
    subst (IsNewPart (hashing (g.H.Hash32.digest_of c.args.old.now.h.now) c.args.old.now.nonce.now.0)
    (table_of c.args.old.now.tree.now) c.args.old.now.root p (entries_in c.args.changes.now)) last.1 one.2

-- ---- above the split depth: the parts of the right side are taken first, then those of the left side

on_sides : (g : given.Over) (t : ℕ) (c : goal.After-sides g t) (before mine : List Part)
    → AreNewParts (hashing (g.H.Hash32.digest_of c.args.old.now.h.now) c.args.old.now.nonce.now.0) (table_of c.args.old.now.tree.now) c.args.old.now.root
    (c.args.depth - length c.args.prefix.now) c.args.prefix.now (entries_in c.args.changes.now) mine
    → OnSides (hashing (g.H.Hash32.digest_of c.args.old.now.h.now) c.args.old.now.nonce.now.0) (table_of c.args.old.now.tree.now) c.args.old.now.root
    c.args.depth c.args.prefix.now (entries_in c.args.changes.now) before mine
on_sides g t c before mine grown =
    let some : 0 < length (entries_in c.args.changes.now) =
    grind (arith, nat_tests, c.is_empty.ensures, c.if-is_empty.false, length-map c.args.changes.now entry_of_change) in
    let above : length c.args.prefix.now < c.args.depth = omega (arith, c.len-level.ensures.len, c.if-level-depth.false, c.requires.depth.0) in
    grown_sides _ _ _ c.args.depth c.args.prefix.now (entries_in c.args.changes.now) before mine above some grown

pub join_upwards-requires : goal.join_upwards-requires
join_upwards-requires g t c κs within =
    let r = c.requires.parts in
    let s = on_sides g t (goal.at.join_upwards-requires g t c).After-sides r.0 r.1 r.3 in
    let deeper = ap length c.child-below_right.ensures ∙ length-child c.args.prefix.now true in
    let mine = grown_as _ _ _ true c.args.depth c.args.prefix.now (entries_in c.args.changes.now) s.right
    c.len-level.ensures.len c.child-below_right.ensures c.sides.ensures.back s.on_right in
    let short : length c.child-below_right.result ≤ c.args.depth = omega (arith, deeper, s.above) in
    (omega (arith, deeper, s.above), (within, (c.requires.root, ((short, c.requires.depth.1), (r.0 ++ s.left, s.right, r.2 ∙ s.parts, mine)))))

pub join_upwards-requires-2 : goal.join_upwards-requires-2
join_upwards-requires-2 g t c κs within =
    let r = c.requires.parts in
    let s = on_sides g t (goal.at.join_upwards-requires-2 g t c).After-sides r.0 r.1 r.3 in
    let deeper = ap length c.child-below_left.ensures ∙ length-child c.args.prefix.now false in
    let taken = c.in_ok-right.ensures.taken (r.0 ++ s.left) s.right (r.2 ∙ s.parts)
    (grown_as _ _ _ true c.args.depth c.args.prefix.now (entries_in c.args.changes.now) s.right
    c.len-level.ensures.len c.child-below_right.ensures c.sides.ensures.back s.on_right) in
    let mine = grown_as _ _ _ false c.args.depth c.args.prefix.now (entries_in c.args.changes.now) s.left
    c.len-level.ensures.len c.child-below_left.ensures c.sides.ensures.front s.on_left in
    (omega (arith, deeper, s.above), (within, (c.requires.root, ((omega (arith, deeper, s.above), c.requires.depth.1), (r.0, s.left, taken, mine)))))

pub returns-clause-taken : goal.returns-clause-taken
returns-clause-taken g t c = λ before mine is grown.
    let s = on_sides g t (goal.at.returns-clause-taken g t c).After-sides before mine grown in
    let taken = c.in_ok-right.ensures.taken (before ++ s.left) s.right (is ∙ s.parts)
    (grown_as _ _ _ true c.args.depth c.args.prefix.now (entries_in c.args.changes.now) s.right
    c.len-level.ensures.len c.child-below_right.ensures c.sides.ensures.back s.on_right) in
    c.in_ok-left.ensures.taken before s.left taken
    (grown_as _ _ _ false c.args.depth c.args.prefix.now (entries_in c.args.changes.now) s.left
    c.len-level.ensures.len c.child-below_left.ensures c.sides.ensures.front s.on_left)

-- the two grown sides are joined
pub returns-clause-grown : goal.returns-clause-grown
returns-clause-grown g t c =
    let p = c.args.prefix.now in
    let es = entries_in c.args.changes.now in
    let some : 0 < length es = grind (arith, nat_tests, c.is_empty.ensures, c.if-is_empty.false, length-map c.args.changes.now entry_of_change) in
    let short : length p < 256 = omega (arith, c.len-level.ensures.len, c.if-level-depth.false, c.requires.depth.0, c.requires.depth.1) in
    let left = rw (c.child-below_left.ensures, c.sides.ensures.front, c.len-level.ensures.len) at c.in_ok-left.ensures.grown in
    let right = rw (c.child-below_right.ensures, c.sides.ensures.back, c.len-level.ensures.len) at c.in_ok-right.ensures.grown in
    let joined = c.in_ok-join.ensures in
    joined_grown _ _ _ p es c.in_ok-left.left c.in_ok-right.right c.in_ok-join.field-0 short some left right joined.fits joined.count joined.new joined.keeps joined.placed joined.stands
