use Rattle.std.proofs.Common.{length, None}
use Rattle.coniks_directory_tests.proofs.RunSteps.{commit_step}
use Rattle.coniks_directory_tests.proofs.tests.runs.commit_next.Goals as goal

pub returns-clause-run : goal.returns-clause-run
returns-clause-run g c =
    let e = c.commit.ensures in
    let p = c.args.provider.now in
    commit_step g.H.Hash32.digest_of g.X.IndexSource.index_of c.commit.result p.directory c.commit.new.self
    None c.args.ops.now 1 c.args.workers c.args.t (length p.publisher.heads) p.board.now.capacity e.installed e.outcome e.same e.retained.grows
