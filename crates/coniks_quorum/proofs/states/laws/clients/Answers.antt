use Rattle.coniks_quorum.proofs.StateLawLemmas.{form_law, watched_law}
use Rattle.coniks_quorum.proofs.states.laws.clients.Goals as goal

pub returns-clause-form : goal.returns-clause-form
returns-clause-form c = form_law

pub returns-clause-watched : goal.returns-clause-watched
returns-clause-watched c = watched_law
