use Rattle.coniks_tree.proofs.halving.below.Goals as goal

pub returns-in-Leaf-clause-placed : goal.returns-in-Leaf-clause-placed
returns-in-Leaf-clause-placed c = λ all more. c.aside.ensures.placed all (c.change_at.ensures.placed all more)
