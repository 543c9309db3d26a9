use Rattle.coniks_provider.proofs.LogLemmas.{replay_leaves}
use Rattle.coniks_provider.proofs.laws.replay_of_a_log_ends_where_its_lines_end.Goals as goal

pub returns : goal.returns
returns c o n log lines stored texts none are lines_are here = replay_leaves o n log lines stored texts none are lines_are here
