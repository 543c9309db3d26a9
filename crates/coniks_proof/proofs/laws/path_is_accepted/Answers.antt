use Rattle.coniks_proof.proofs.LookupLemmas.{path_accepted}
use Rattle.coniks_proof.proofs.laws.path_is_accepted.Goals as goal

pub returns : goal.returns
returns g c index_of registry map all root path alone fits =
    path_accepted (g.H.Hash32.digest_of c.args.h.now) index_of c.args.nonce.now.0 c.args.root.now.0 registry c.args.name.now c.args.proof.now map all root path alone fits
