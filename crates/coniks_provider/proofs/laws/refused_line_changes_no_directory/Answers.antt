use Rattle.coniks_provider.proofs.RefusedLemmas.{turn-keeps}
use Rattle.coniks_provider.proofs.laws.refused_line_changes_no_directory.Goals as goal

pub returns : goal.returns
returns c s line = turn-keeps s line
