use Rattle.std.proofs.Common.{ap, ◌∙◌}
use Rattle.coniks_client.specs.Changes.{key_after, wanted}
use Rattle.coniks_client.proofs.ChangeLemmas.{key-expected}
use Rattle.coniks_client.proofs.changes.stage_at.Goals as goal

pub returns-clause-key : goal.returns-clause-key
returns-clause-key c =
    c.key_after.ensures ∙ ap (key_after (wanted c.args.key.now) c.args.changes.now) c.begun-count.ensures.count ∙ key-expected (wanted c.args.key.now) c.args.changes.now c.args.epoch
