use Rattle.coniks_tool.proofs.RefusedLemmas.{turn-keeps}
use Rattle.coniks_tool.proofs.run.laws.refused_line_changes_no_directory.Goals as goal

pub returns : goal.returns
returns c s line = turn-keeps s line
