use Rattle.coniks_proof.specs.Proofs.{answer_of}
use Rattle.coniks_tool.proofs.CheckFaultLemmas.{accepts-none, none-accepts, first-some, some-first}
use Rattle.coniks_tool.proofs.check.laws.reported_fault_of_a_proof_is_the_first.Goals as goal

pub returns-clause-none : goal.returns-clause-none
returns-clause-none c by root index name proof = (none-accepts by root index name proof, accepts-none by root index name proof (answer_of proof.end))

pub returns-clause-some : goal.returns-clause-some
returns-clause-some c by root index name proof fault = (some-first by root index name proof fault, first-some by root index name proof fault)
