use Rattle.std.proofs.Common.{length}
use Rattle.coniks_directory.proofs.install.may_install.Goals as goal

pub returns-in-Err-clause-refused : goal.returns-in-Err-clause-refused
returns-in-Err-clause-refused c = c.in-Err.ensures.uninstalled (length c.args.publisher.now.heads) c.args.board.now.capacity
