use Rattle.coniks_client.specs.Changes.{wanted}
use Rattle.coniks_quorum.proofs.SuccessionLemmas.{accepts-at, expects-at, next-open}
use Rattle.coniks_quorum.proofs.successions.carry.Goals as goal

pub open_at-requires : goal.open_at-requires
open_at-requires c = next-open c.args.changes.now c.args.succession.now.last.epoch c.settle-stage.result.count c.change_at-next.result
    c.settle-stage.ensures.count c.change_at-next.ensures

pub returns-clause-expects : goal.returns-clause-expects
returns-clause-expects c = expects-at (wanted c.args.watch.now.key.now) c.args.changes.now c.args.succession.now.last.epoch c.args.succession.now.first.epoch
    c.settle-stage.result.count c.change_at-next.result (wanted c.settle-stage.result.key.now) c.open_at.result
    c.settle-stage.ensures.count c.change_at-next.ensures c.settle-stage.ensures.key c.open_at.ensures

pub returns-clause-accepts : goal.returns-clause-accepts
returns-clause-accepts c = accepts-at (wanted c.args.watch.now.key.now) c.args.changes.now c.args.succession.now.last.epoch c.args.succession.now.first.epoch
    c.settle-stage.result.count c.change_at-next.result (wanted c.settle-stage.result.key.now) c.open_at.result
    c.settle-stage.ensures.count c.change_at-next.ensures c.settle-stage.ensures.key c.open_at.ensures
