use Rattle.coniks_directory_tests.proofs.RunSteps.{supply_step}
use Rattle.coniks_directory_tests.proofs.tests.runs.supply_next.Goals as goal

pub returns-clause-run : goal.returns-clause-run
returns-clause-run g c =
    supply_step g.H.Hash32.digest_of g.X.IndexSource.index_of c.args.directory.now c.supply.new.self c.supply.ensures.state c.supply.ensures.hash c.supply.ensures.agree
