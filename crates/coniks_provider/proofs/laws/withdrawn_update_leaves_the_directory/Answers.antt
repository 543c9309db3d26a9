use Rattle.coniks_provider.proofs.LogLemmas.{withdrawn_leaves}
use Rattle.coniks_provider.proofs.laws.withdrawn_update_leaves_the_directory.Goals as goal

pub returns : goal.returns
returns c o b none = withdrawn_leaves o b none
