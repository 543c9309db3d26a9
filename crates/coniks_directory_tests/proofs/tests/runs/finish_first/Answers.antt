use Rattle.coniks_directory_tests.proofs.RunSteps.{restore_step}
use Rattle.coniks_directory_tests.proofs.tests.runs.finish_first.Goals as goal

pub returns : goal.returns
returns g c =
    let r = c.args.begun in
    restore_step g.H.Hash32.digest_of g.X.IndexSource.index_of r.hash r.index c.finish.result r.entry r.ops
    c.finish.ensures.restored c.finish.ensures.hash c.finish.ensures.index c.finish.ensures.accepted
