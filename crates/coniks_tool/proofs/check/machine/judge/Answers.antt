use Rattle.coniks_proof.specs.Proofs.{stated}
use Rattle.coniks_tool.specs.Check.{requested_by}
use Rattle.coniks_tool.proofs.CheckLemmas.{accepted-outcome, refused-outcome}
use Rattle.coniks_tool.proofs.check.machine.judge.Goals as goal

pub returns-in-Ok : goal.returns-in-Ok
returns-in-Ok c = accepted-outcome (requested_by c.args.question.now) c.as_bytes.result.now (stated c.in-Ok.answer) c.as_bytes.ensures.value c.in-Ok.ensures.accepted

pub returns-in-Err : goal.returns-in-Err
returns-in-Err c = refused-outcome (requested_by c.args.question.now) c.as_bytes.result.now c.in-Err.fault c.as_bytes.ensures.value c.in-Err.ensures.refused
