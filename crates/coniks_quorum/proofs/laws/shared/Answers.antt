use Rattle.coniks_quorum.proofs.ConfirmLemmas.{share}
use Rattle.coniks_quorum.proofs.laws.shared.Goals as goal

pub returns : goal.returns
returns c = share
