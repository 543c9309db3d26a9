use Rattle.coniks_chain.proofs.GuardUsedLemmas.{used}
use Rattle.coniks_chain.proofs.laws.guard_accounts_for_bodies.Goals as goal

pub returns : goal.returns
returns c = used
