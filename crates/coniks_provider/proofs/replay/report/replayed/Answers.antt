use Rattle.coniks_provider.proofs.replay.report.replayed.Goals as goal

pub returns-in-Some : goal.returns-in-Some
returns-in-Some c = rw c.in-Some.is c.object.ensures

pub returns-in-None : goal.returns-in-None
returns-in-None c = rw c.in-None.is c.object-in-None.ensures
