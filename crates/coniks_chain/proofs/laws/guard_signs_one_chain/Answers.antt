use Rattle.coniks_chain.proofs.GuardRunLemmas.{guarded, never_convict}
use Rattle.coniks_chain.proofs.laws.guard_signs_one_chain.Goals as goal

pub returns : goal.returns
returns c = record { chain = guarded; evidence = never_convict }
