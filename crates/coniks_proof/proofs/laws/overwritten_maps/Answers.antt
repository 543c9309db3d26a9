use Rattle.coniks_proof.proofs.OverwrittenLemmas.{IsMap-overwritten, under-apart, under-overwritten}
use Rattle.coniks_proof.proofs.laws.overwritten_maps.Goals as goal

pub returns-clause-map : goal.returns-clause-map
returns-clause-map g c entries changes old new = IsMap-overwritten entries changes old new

pub returns-clause-under : goal.returns-clause-under
returns-clause-under g c prefix entries changes = under-overwritten prefix entries changes

pub returns-clause-apart : goal.returns-clause-apart
returns-clause-apart g c prefix entries short map = under-apart prefix entries short map
