use Rattle.std.proofs.Common.{sym, subst}
use Rattle.coniks_tree.specs.Parts.{AllPlaced}
use Rattle.coniks_tree.proofs.Lemmas.{AllPlaced-drop, AllPlaced-take}
use Rattle.coniks_base_tests.proofs.epochs.+grown_at.Goals as goal

pub returns-clause-placed : goal.returns-clause-placed
returns-clause-placed g t c = λ all more each.
    let on_left = subst (AllPlaced all) (sym c.split_at.ensures.front) (AllPlaced-take all _ _ each) in
    let on_right = subst (AllPlaced all) (sym c.split_at.ensures.back) (AllPlaced-drop all _ _ each) in
    c.in_ok-join.ensures.placed all (c.in_ok-left.ensures.placed all more on_left) (c.in_ok-right.ensures.placed all more on_right)
