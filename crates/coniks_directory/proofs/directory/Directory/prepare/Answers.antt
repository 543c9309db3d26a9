use Rattle.std.proofs.Common.{◌≡◌, Err, rules}
use Rattle.coniks_directory.proofs.directory.Directory.prepare.Goals as goal

pub returns-in_err-parallelism_of-clause-refused : goal.returns-in_err-parallelism_of-clause-refused
returns-in_err-parallelism_of-clause-refused g c =
    let is : c.from_residual.result ≡ Err c.in_err-parallelism_of.field-0.0 = search rules in
    rw is (c.in_err-parallelism_of.ensures.refused (g.X.IndexSource.index_of c.args.self.now.index) _ _)
