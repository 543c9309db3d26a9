use Rattle.std.proofs.Common.{sym, subst}
use Rattle.coniks_tree.specs.Parts.{AllPlaced}
use Rattle.coniks_tree.proofs.PartLemmas.{AllPlaced-push}
use Rattle.coniks_tree.proofs.EntriesLemmas.{listed_change}
use Rattle.coniks_tree.proofs.entries.push_change.Goals as goal

pub returns-clause-placed : goal.returns-clause-placed
returns-clause-placed c = λ all more placed.
    subst (AllPlaced all) (sym c.in_ok-push.ensures.items)
    (AllPlaced-push all c.args.changes.now.items c.change_at.result placed (c.change_at.ensures.placed all more))

pub returns-clause-entry : goal.returns-clause-entry
returns-clause-entry c =
    listed_change c.args.tree.now.records c.args.changes.now.items c.push.new.self.items c.change_at.result c.args.place.0
    c.in_ok-push.ensures.items c.requires c.change_at.ensures.same
