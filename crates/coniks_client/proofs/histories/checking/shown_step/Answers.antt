use Rattle.coniks_client.specs.HistorySteps.{step_in}
use Rattle.coniks_client.proofs.HistoryCheckLemmas.{passes-by}
use Rattle.coniks_client.proofs.histories.checking.shown_step.Goals as goal

pub returns-in-Ok-clause-ok : goal.returns-in-Ok-clause-ok
returns-in-Ok-clause-ok g c =
    passes-by (g.H.Hash32.digest_of c.args.by.now.hash.now) c.args.by.now.index.0 c.args.by.now.stored.now c.args.by.now.name.now (step_in c.args.siblings.now c.args.step.now) c.in-Some.found.place
    c.in-Some.found.mine c.entry.result c.key_at.result.now c.in-Some.ensures.some.0 c.in-Some.ensures.some.1 c.entry.ensures c.key_at.ensures c.in-Ok.ensures.ok
