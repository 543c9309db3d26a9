use Rattle.std.proofs.Common.{ap, refl, ◌≡◌}
use Rattle.coniks_tree.specs.Table.{entry_of_record}
use Rattle.coniks_tree.proofs.halving.change_at.Goals as goal

pub returns-clause-placed : goal.returns-clause-placed
returns-clause-placed c = λ all more. (c.record-found.result.now, more _ _ c.record-found.ensures, refl)

pub returns-clause-same : goal.returns-clause-same
returns-clause-same c = λ r at. let same : c.record-found.result.now ≡ r = let have = c.record-found.ensures in cc in ap (entry_of_record c.args.place.0) same
