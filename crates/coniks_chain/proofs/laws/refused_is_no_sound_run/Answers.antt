use Rattle.coniks_chain.proofs.WatchLemmas.{unsound-no_run}
use Rattle.coniks_chain.proofs.laws.refused_is_no_sound_run.Goals as goal

pub returns : goal.returns
returns c hash verdict start name index items place fault refused = unsound-no_run hash verdict start name index items place fault refused
