use Rattle.std.proofs.Common.{rules, ◌≡◌, ◌≤◌, ◌+◌, ℕ, length, sym, subst, arith}
use Rattle.coniks_client.specs.HistoryChecking.{AreCheckedTo}
use Rattle.coniks_client.specs.HistorySteps.{past_in, step_in}
use Rattle.coniks_client.specs.declared.histories.steps.Before.{Before}
use Rattle.coniks_client.proofs.HistoryCheckLemmas.{checked-more}
use Rattle.coniks_client.proofs.histories.checking.check_steps.Goals as goal

pub returns-then-count-shown-clause-err : goal.returns-then-count-shown-clause-err
returns-then-count-shown-clause-err g c =
    let hash = g.H.Hash32.digest_of c.args.by.now.hash.now in
    let full : c.steps.count ≡ length c.args.shown.now = omega (arith, c.steps.invariant.room, c.steps.invariant.same_room) in
    let past = past_in c.steps.siblings c.steps.before in (
      c.steps.shown,
      past,
      c.steps.rest.now,
      subst (λ (n : ℕ). AreCheckedTo hash c.args.by.now.index.0 c.args.by.now.stored.now c.args.by.now.name.now c.args.bytes.now c.steps.shown past c.steps.rest.now n) full c.steps.invariant.checked,
      search rules,
    )

pub steps-preserved : goal.steps-preserved
steps-preserved g c =
    let hash = g.H.Hash32.digest_of c.args.by.now.hash.now in record {
      checked = subst (λ (b : Before). AreCheckedTo hash c.args.by.now.index.0 c.args.by.now.stored.now c.args.by.now.name.now c.args.bytes.now c.set_shown.new.shown
          (past_in c.check_next.new.siblings b) c.in-Ok.passed.read.rest.now (c.steps.count + 1)) (sym c.left_by-before.ensures)
          (checked-more hash c.args.by.now.index.0 c.args.by.now.stored.now c.args.by.now.name.now c.args.bytes.now c.steps.shown c.set_shown.new.shown (past_in c.steps.siblings c.steps.before)
          c.steps.rest.now c.in-Ok.passed.read.rest.now c.steps.count (step_in c.check_next.new.siblings c.in-Ok.passed.read.step) c.in-Ok.passed.shown
          c.steps.invariant.checked c.in-Ok.ensures.step c.in-Ok.ensures.shown c.set_shown.ensures);
      few = subst (λ (b : Before). b.count ≤ 256) (sym c.left_by-before.ensures) c.in-Ok.ensures.few;
      room = omega arith;
      same_room = omega arith;
      memory = omega arith;
    }
