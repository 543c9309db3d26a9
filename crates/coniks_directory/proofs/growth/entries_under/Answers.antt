use Rattle.coniks_directory.proofs.GrowthLemmas.{nothing-Lists}
use Rattle.coniks_directory.proofs.growth.entries_under.Goals as goal

pub returns-in-None-clause-lists : goal.returns-in-None-clause-lists
returns-in-None-clause-lists c = λ by entries map. nothing-Lists _ entries c.new.ensures.items (rw c.in-None.is at map)
