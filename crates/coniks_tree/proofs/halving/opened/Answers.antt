use Rattle.std.proofs.Common.{subst}
use Rattle.coniks_tree.specs.Parts.{Placed}
use Rattle.coniks_tree.proofs.halving.opened.Goals as goal

pub returns-in-Entry-clause-placed : goal.returns-in-Entry-clause-placed
returns-in-Entry-clause-placed c = λ all more placed. c.aside.ensures.placed all (subst (Placed all) c.in-Entry.is placed)
