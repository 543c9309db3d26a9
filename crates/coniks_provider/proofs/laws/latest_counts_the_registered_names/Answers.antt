use Rattle.coniks_provider.proofs.CountLemmas.{all_registered}
use Rattle.coniks_provider.proofs.laws.latest_counts_the_registered_names.Goals as goal

pub returns : goal.returns
returns c lines o is = all_registered lines o is
