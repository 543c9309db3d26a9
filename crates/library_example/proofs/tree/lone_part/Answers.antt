use Rattle.std.proofs.Common.{refl, ◌∷◌, []}
use Rattle.library_example.proofs.tree.lone_part.Goals as goal

pub returns-clause-placed : goal.returns-clause-placed
returns-clause-placed c = c.change_to.ensures (c.args.new.now ∷ []) refl
