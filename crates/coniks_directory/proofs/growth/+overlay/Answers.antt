use Rattle.std.proofs.Common.{ap, arith, sym, subst, ◌≡◌, ◌<◌, length, true, false}
use Rattle.std.proofs.lemmas.Bool.Decides.{nat_tests}
use Rattle.coniks_directory.proofs.Words.{entry_of_change, length-map, nil_from_length, overwritten}
use Rattle.coniks_tree.specs.Entries.{in_order}
use Rattle.coniks_tree.specs.Parts.{AllPlaced, entries_in}
use Rattle.coniks_tree.proofs.Lemmas.{AllPlaced-append}
use Rattle.coniks_directory.proofs.GrowthLemmas.{aligned-side, listed-more, overlaid-both, overlaid-end, overlaid-new, overlaid-same}
use Rattle.coniks_directory.proofs.growth.+overlay.Goals.{then-is_empty-2-via-then-is_empty-2, then-is_empty-2-via-else-is_empty-2+then-level-eq-MAX_LEVEL}
use Rattle.coniks_directory.proofs.growth.+overlay.Goals as goal

-- there are no changes
pub returns-then-is_empty-clause-lists : goal.returns-then-is_empty-clause-lists
returns-then-is_empty-clause-lists t c = λ aligned.
    let none = nil_from_length c.args.changes.now (grind (arith, nat_tests, c.is_empty.ensures, c.if-is_empty.true)) in
    listed-more c.args.all.now.items _ c.args.entries.now _ c.in_ok-extend_from_slice.ensures.items (overlaid-same c.args.level _ _ aligned (ap entries_in none))

pub returns-then-is_empty-clause-placed : goal.returns-then-is_empty-clause-placed
returns-then-is_empty-clause-placed t c = λ records old new placed.
    subst (AllPlaced records) (sym c.in_ok-extend_from_slice.ensures.items) (AllPlaced-append records c.args.all.now.items c.args.entries.now placed old)

-- there are no entries, or the level is the last one
pub returns-then-is_empty-2-clause-lists : goal.returns-then-is_empty-2-clause-lists
returns-then-is_empty-2-clause-lists t c = λ aligned.
    let cs = c.args.changes.now in
    let some : 0 < length cs = grind (arith, nat_tests, c.is_empty.ensures, c.if-is_empty.false) in
    let list : in_order c.args.level (overwritten (entries_in c.args.entries.now) (entries_in cs)) ≡ entries_in cs = elim c.then-is_empty-2.branch [
      | then-is_empty-2-via-then-is_empty-2 w ↦
          let none = nil_from_length c.args.entries.now (grind (arith, nat_tests, c.is_empty-2.ensures, w.if-is_empty-2.true)) in
          overlaid-new c.args.level _ _ aligned (ap entries_in none)
      | then-is_empty-2-via-else-is_empty-2+then-level-eq-MAX_LEVEL w ↦ overlaid-end c.args.level _ _ w.if-level-eq-MAX_LEVEL.true aligned (omega (arith, some, length-map cs entry_of_change))
    ] in
    listed-more c.args.all.now.items _ cs _ c.in_ok-extend_from_slice-2.ensures.items list

pub returns-then-is_empty-2-clause-placed : goal.returns-then-is_empty-2-clause-placed
returns-then-is_empty-2-clause-placed t c = λ records old new placed.
    subst (AllPlaced records) (sym c.in_ok-extend_from_slice-2.ensures.items) (AllPlaced-append records c.args.all.now.items c.args.changes.now placed new)

-- one side comes after the other
pub returns-clause-lists : goal.returns-clause-lists
returns-clause-lists t c = λ aligned.
    let k = c.args.level in
    let es = entries_in c.args.entries.now in
    let cs = entries_in c.args.changes.now in
    let short : k < 256 = omega (arith, c.requires, c.if-level-eq-MAX_LEVEL.false) in
    let l = c.sides.ensures.left aligned.old in
    let r = c.sides.ensures.right aligned.old in
    let lc = c.sides-2.ensures.left aligned.new in
    let rc = c.sides-2.ensures.right aligned.new in
    overlaid-both k es cs aligned (entries_in c.args.all.now.items) (entries_in c.overlay.new.all.items) (entries_in c.overlay-2.new.all.items) _ _ _ _ short l r lc rc
    (c.in_ok-overlay.ensures.lists (aligned-side k es cs aligned false _ _ short l lc)) (c.in_ok-overlay-2.ensures.lists (aligned-side k es cs aligned true _ _ short r rc))

pub returns-clause-placed : goal.returns-clause-placed
returns-clause-placed t c = λ records old new placed.
    let es = c.sides.ensures.placed records old in
    let cs = c.sides-2.ensures.placed records new in
    c.in_ok-overlay-2.ensures.placed records es.1 cs.1 (c.in_ok-overlay.ensures.placed records es.0 cs.0 placed)
