use Rattle.std.proofs.Common.{length}
use Rattle.coniks_directory_tests.proofs.RunSteps.{install_step}
use Rattle.coniks_directory_tests.proofs.tests.runs.install_next.Goals as goal

pub returns-clause-run : goal.returns-clause-run
returns-clause-run g c =
    let e = c.install.ensures in
    let p = c.args.provider.now in
    install_step g.H.Hash32.digest_of g.X.IndexSource.index_of c.install.result p.directory
    c.install.new.self c.args.update c.args.t (length p.publisher.heads) p.board.now.capacity
    e.installed e.outcome e.same e.retained.grows
