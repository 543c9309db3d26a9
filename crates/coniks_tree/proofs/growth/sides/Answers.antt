use Rattle.std.proofs.Common.{ap, sym, subst, ◌∙◌, take, drop}
use Rattle.std.specs.List.{take-map, drop-map}
use Rattle.coniks_tree.specs.Parts.{entries_in, entry_of_change, AllPlaced}
use Rattle.coniks_tree.proofs.PartLemmas.{changes_left, changes_right, AllPlaced-take, AllPlaced-drop}
use Rattle.coniks_tree.proofs.growth.sides.Goals as goal

pub returns-clause-left : goal.returns-clause-left
returns-clause-left c = λ ordered.
    ap entries_in c.split_at.ensures.front ∙ changes_left c.args.changes.now c.args.level c.lefts-cut.result c.requires ordered c.lefts-cut.ensures.count

pub returns-clause-right : goal.returns-clause-right
returns-clause-right c = λ ordered.
    ap entries_in c.split_at.ensures.back ∙ changes_right c.args.changes.now c.args.level c.lefts-cut.result c.requires ordered c.lefts-cut.ensures.count

pub returns-clause-placed : goal.returns-clause-placed
returns-clause-placed c = λ all placed. (
  subst (AllPlaced all) (sym c.split_at.ensures.front) (AllPlaced-take all c.lefts-cut.result c.args.changes.now placed),
  subst (AllPlaced all) (sym c.split_at.ensures.back) (AllPlaced-drop all c.lefts-cut.result c.args.changes.now placed),
)

pub returns-clause-front : goal.returns-clause-front
returns-clause-front c =
    ap entries_in c.split_at.ensures.front ∙ sym (take-map entry_of_change c.lefts-cut.result c.args.changes.now)
    ∙ ap (λ n. take n (entries_in c.args.changes.now)) c.lefts-cut.ensures.count

pub returns-clause-back : goal.returns-clause-back
returns-clause-back c =
    ap entries_in c.split_at.ensures.back ∙ sym (drop-map entry_of_change c.lefts-cut.result c.args.changes.now)
    ∙ ap (λ n. drop n (entries_in c.args.changes.now)) c.lefts-cut.ensures.count
