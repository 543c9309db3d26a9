use Rattle.coniks_tool.proofs.MonitorLemmas.{watched-sound, sound-watched, reported-first, first-reported}
use Rattle.coniks_tool.proofs.monitor.laws.reported_fault_of_a_step_is_the_first.Goals as goal

pub returns-clause-sound : goal.returns-clause-sound
returns-clause-sound c s entry proof = (watched-sound s entry proof, sound-watched s entry proof)

pub returns-clause-refused : goal.returns-clause-refused
returns-clause-refused c s entry proof fault = (reported-first s entry proof fault, first-reported s entry proof fault)
