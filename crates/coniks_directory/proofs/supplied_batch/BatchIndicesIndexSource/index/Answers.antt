use Rattle.std.proofs.Common.{refl, ◌∙◌}
use Rattle.coniks_directory.proofs.supplied_batch.BatchIndicesIndexSource.index.Goals as goal

pub returns-in-Some : goal.returns-in-Some
returns-in-Some g c = let e = c.in-Some.ensures.some in e.1 ∙ rw e.0 refl

pub returns-in-None : goal.returns-in-None
returns-in-None g c = let gone = c.in-None.ensures.none refl in c.index.ensures ∙ rw gone refl
