use Rattle.coniks_tool.proofs.AuditFaultLemmas.{follows-none, none-follows, first-some, some-first}
use Rattle.coniks_tool.proofs.audit.laws.reported_fault_is_the_first.Goals as goal

pub returns-clause-none : goal.returns-clause-none
returns-clause-none c verdict before entry = (none-follows verdict before entry, follows-none verdict before entry)

pub returns-clause-some : goal.returns-clause-some
returns-clause-some c verdict before entry fault = (some-first verdict before entry fault, first-some verdict before entry fault)
