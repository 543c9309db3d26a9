use Rattle.std.proofs.Common.{subst}
use Rattle.coniks_directory.proofs.Words.{HolderIs}
use Rattle.coniks_directory.proofs.pending.PendingRecords.binds.Goals as goal

pub returns : goal.returns
returns c = λ hash index_of bound s at. c.is_of.ensures index_of bound (subst (λ i. HolderIs index_of bound i c.holder.result) at (c.holder.ensures hash index_of bound s))
