use Rattle.std.proofs.Common.{◌≡◌, suc, ◌-◌, arith, ap, ◌∙◌}
use Rattle.coniks_client.specs.Changes.{key_after, wanted}
use Rattle.coniks_client.proofs.ChangeLemmas.{key-at}
use Rattle.coniks_client.proofs.changes.key_after.Goals as goal

pub returns-else-count-eq0 : goal.returns-else-count-eq0
returns-else-count-eq0 c =
    let some = c.if-count-eq0.false in
    let is : suc (c.args.count - 1) ≡ c.args.count = omega arith in
    key-at (wanted c.args.key.now) c.args.changes.now (c.args.count - 1) _ (omega arith) ∙ ap (key_after (wanted c.args.key.now) c.args.changes.now) is
