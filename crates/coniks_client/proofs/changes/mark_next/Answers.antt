use Rattle.coniks_proof.specs.Proofs.{stated}
use Rattle.coniks_client.specs.Changes.{wanted}
use Rattle.coniks_client.proofs.ChangeLemmas.{next-none, next-set}
use Rattle.coniks_client.proofs.changes.mark_next.Goals as goal

pub returns-then-stage-changes : goal.returns-then-stage-changes
returns-then-stage-changes c =
    next-set (wanted c.args.key.now) c.args.changes.now c.args.epoch (stated c.args.answer.now) (wanted c.stage_at-stage.result.key.now) c.stage_at-stage.result.count
    c.stage_at-stage.ensures.key c.stage_at-stage.ensures.count c.change_at-next.result c.narrowed-change.result c.set_change.new.changes
    c.change_at-next.ensures c.narrowed-change.ensures c.set_change.ensures

pub returns-else-stage-changes : goal.returns-else-stage-changes
returns-else-stage-changes c =
    next-none (wanted c.args.key.now) c.args.changes.now c.args.epoch (stated c.args.answer.now) (wanted c.stage_at-stage.result.key.now) c.stage_at-stage.result.count
    c.stage_at-stage.ensures.key c.stage_at-stage.ensures.count c.if-stage-changes.false
