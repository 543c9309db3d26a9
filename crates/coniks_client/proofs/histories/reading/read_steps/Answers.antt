use Rattle.std.proofs.Common.{rules, ◌≤◌, ◌+◌, sym, subst, arith}
use Rattle.coniks_client.specs.Histories.{IsReadTo}
use Rattle.coniks_client.specs.HistorySteps.{past_in, step_in}
use Rattle.coniks_client.specs.declared.histories.steps.Before.{Before}
use Rattle.coniks_client.proofs.HistoryLemmas.{step-more, step-none}
use Rattle.coniks_client.proofs.histories.reading.read_steps.Goals as goal

pub returns-in-Err-clause-err : goal.returns-in-Err-clause-err
returns-in-Err-clause-err c =
    step-none c.args.bytes.now (past_in c.steps.siblings c.steps.before) c.steps.rest.now c.steps.count c.in-Err.fault c.steps.invariant.read (search rules)
    c.in-Err.ensures.err

pub steps-preserved : goal.steps-preserved
steps-preserved c = record {
  read = subst (λ (b : Before). IsReadTo c.args.bytes.now (past_in c.read_step.new.siblings b) c.in-Ok.read.rest.now (c.steps.count + 1)) (sym c.left_by-before.ensures)
      (step-more c.args.bytes.now (past_in c.steps.siblings c.steps.before) c.steps.rest.now c.in-Ok.read.rest.now c.steps.count
      (step_in c.read_step.new.siblings c.in-Ok.read.step) c.steps.invariant.read c.in-Ok.ensures.ok);
  few = subst (λ (b : Before). b.count ≤ 256) (sym c.left_by-before.ensures) c.in-Ok.ensures.few;
  room = omega (arith, c.in-Ok.ensures.shorter);
  memory = omega arith;
}
