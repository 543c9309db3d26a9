use Rattle.coniks_chain.proofs.ClientLemmas.{two_clients}
use Rattle.coniks_chain.proofs.laws.two_clients.Goals as goal

pub returns : goal.returns
returns c = two_clients
