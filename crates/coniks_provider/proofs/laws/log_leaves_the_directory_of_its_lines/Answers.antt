use Rattle.coniks_provider.proofs.LogLemmas.{log_leaves}
use Rattle.coniks_provider.proofs.laws.log_leaves_the_directory_of_its_lines.Goals as goal

pub returns : goal.returns
returns c o lines stored none are = log_leaves o lines stored none are
