use Rattle.coniks_provider.proofs.LogLemmas.{stored_same}
use Rattle.coniks_provider.proofs.laws.stored_line_gives_the_same.Goals as goal

pub returns : goal.returns
returns c s line stored is = stored_same s line stored is
