use Rattle.std.proofs.Common.{◌≡◌, [], sym, arith}
use Rattle.std.proofs.lemmas.Bool.Decides.{nat_tests}
use Rattle.std.proofs.lemmas.List.{append-nil, nil_from_length}
use Rattle.coniks_tree.proofs.LevelLemmas.{grown-one, grown-same, side_done}
use Rattle.coniks_tree.proofs.levels.settle.Goals as goal

pub returns-then-is_empty : goal.returns-then-is_empty
returns-then-is_empty c = λ by t fits.
    let none : c.args.changes.now ≡ [] = nil_from_length c.args.changes.now (grind (arith, nat_tests, c.is_empty.ensures, c.if-is_empty.true)) in (
      [],
      sym (append-nil c.args.next.now.items),
      tt,
      side_done by t c.args.prefix c.args.part c.args.changes.now c.args.part
          (grown-same by t c.args.prefix c.args.part c.args.changes.now none fits),
    )

pub returns-in-Some : goal.returns-in-Some
returns-in-Some c = λ by t fits. (
  [],
  sym (append-nil c.args.next.now.items),
  tt,
  side_done by t c.args.prefix c.args.part c.args.changes.now _
      (grown-one by t c.args.prefix c.args.part c.args.changes.now c.in-Some.change c.len.result c.len.ensures.len (omega (arith, c.len.ensures.len, c.len.ensures.short))
      c.in-Some.ensures.placed (λ entries. c.in-Some.ensures.stands by t c.args.prefix entries)),
)
