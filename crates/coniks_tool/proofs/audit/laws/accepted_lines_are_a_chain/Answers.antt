use Rattle.coniks_tool.specs.Audit.{none_audited}
use Rattle.coniks_tool.proofs.AuditChainLemmas.{accepted-chain}
use Rattle.coniks_tool.proofs.audit.laws.accepted_lines_are_a_chain.Goals as goal

pub returns : goal.returns
returns c key lines = accepted-chain (none_audited key) lines
