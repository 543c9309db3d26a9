use Rattle.coniks_proof.proofs.BindingLemmas.{same_registry}
use Rattle.coniks_proof.proofs.laws.roots_bind.Goals as goal

pub returns : goal.returns
returns c = λ hash index_of also nonce registry other long map map' within within' opened opened' same.
    same_registry hash index_of also nonce registry other long map map' within within' opened opened' same
