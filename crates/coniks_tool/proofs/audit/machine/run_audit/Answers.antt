use Rattle.coniks_programs.proofs.Lemmas.{run_is}
use Rattle.coniks_lines.proofs.Lemmas.{run_of}
use Rattle.coniks_tool.specs.Audit.{audit_answer}
use Rattle.coniks_tool.proofs.AuditChainLemmas.{all-chain}
use Rattle.coniks_tool.proofs.audit.machine.run_audit.Goals as goal

pub returns-clause-run : goal.returns-clause-run
returns-clause-run g c = rw (← c.new-auditing.ensures, c.of_run.ensures)
    (run_is (λ _. ⊥) c.run_lines.result (run_of audit_answer _ c.run_lines.result c.run_lines.ensures.ok c.run_lines.ensures.err))

pub returns-clause-chain : goal.returns-clause-chain
returns-clause-chain g c = λ input reported.
    rw c.of_run.ensures (all-chain c.args.key input _ _ _ _ c.run_lines.result c.new-auditing.ensures (c.run_lines.ensures.all_of input reported))
