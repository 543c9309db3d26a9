use Rattle.std.proofs.Common.{◌∙◌}
use Rattle.coniks_directory.specs.Runs.{restoring}
use Rattle.coniks_directory.proofs.AlikeLemmas.{accepted_same, bodies_same, epochs_same, first_same, keys_same, nodes_same, paths_same, roots_same, runs_same}
use Rattle.coniks_directory.proofs.RestoreLemmas.{good_alone, good_joined}
use Rattle.coniks_directory.proofs.RunLemmas.{history_by}
use Rattle.coniks_directory.proofs.laws.restored_directories_agree.Goals as goal

pub returns-clause-faults : goal.returns-clause-faults
returns-clause-faults c = first_same

pub returns-clause-accepted : goal.returns-clause-accepted
returns-clause-accepted c = accepted_same

pub returns-clause-epochs : goal.returns-clause-epochs
returns-clause-epochs c = epochs_same

pub returns-clause-roots : goal.returns-clause-roots
returns-clause-roots c = roots_same

pub returns-clause-keys : goal.returns-clause-keys
returns-clause-keys c = keys_same

pub returns-clause-paths : goal.returns-clause-paths
returns-clause-paths c = paths_same

pub returns-clause-nodes : goal.returns-clause-nodes
returns-clause-nodes c = nodes_same

pub returns-clause-bodies : goal.returns-clause-bodies
returns-clause-bodies c = bodies_same

pub returns-clause-runs : goal.returns-clause-runs
returns-clause-runs c = λ hash index_of start batches more s r earlier shown entry ops run restored is alike.
    let same = runs_same start batches more earlier shown entry ops is alike in
    (same.0, history_by hash index_of start _ s run ∙ same.1, rw (history_by hash index_of (restoring entry ops) more r restored) same.2)

pub returns-clause-chains : goal.returns-clause-chains
returns-clause-chains c = good_joined

pub returns-clause-first : goal.returns-clause-first
returns-clause-first c = good_alone
