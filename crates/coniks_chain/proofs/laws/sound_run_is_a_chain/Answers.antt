use Rattle.coniks_chain.proofs.ClientLemmas.{run_good}
use Rattle.coniks_chain.proofs.laws.sound_run_is_a_chain.Goals as goal

pub returns : goal.returns
returns c hash verdict name index items sound = run_good hash verdict name index items sound
