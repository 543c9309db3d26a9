use Rattle.coniks_tool.proofs.RefusedLemmas.{monitor-keeps}
use Rattle.coniks_tool.proofs.monitor.laws.refused_line_changes_no_monitor.Goals as goal

pub returns : goal.returns
returns c s line = monitor-keeps s line
