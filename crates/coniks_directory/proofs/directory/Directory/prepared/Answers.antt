use Rattle.std.proofs.Common.{◌≡◌, Err, rules}
use Rattle.coniks_directory.proofs.Words.{length-map, operation_of}
use Rattle.coniks_directory.proofs.directory.Directory.prepared.Goals as goal

pub returns-in_err-check_length-clause-refused : goal.returns-in_err-check_length-clause-refused
returns-in_err-check_length-clause-refused g c =
    let is : c.from_residual.result ≡ Err c.in_err-check_length.field-0.0 = search rules in
    let too = rw c.deref.ensures.value at c.in_err-check_length.ensures.refused in
    let within = c.args.build.now.parallelism.within in
    rw (is, too.0) (within.0, within.1, rw (length-map c.args.ops.items operation_of) too.1)
