use Rattle.coniks_tool.proofs.RefusedLemmas.{audit-keeps}
use Rattle.coniks_tool.proofs.audit.laws.refused_line_changes_no_auditor.Goals as goal

pub returns : goal.returns
returns c s line = audit-keeps s line
