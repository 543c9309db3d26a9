use Rattle.coniks_directory.proofs.Words.{state_of}
use Rattle.coniks_directory.proofs.InstallLemmas.{body_is}
use Rattle.coniks_directory.proofs.install.make_body.Goals as goal

pub returns : goal.returns
returns g c = λ index_of whole update.
    body_is (g.H.Hash32.digest_of c.args.h.now) index_of (state_of c.args.stored.now) c.args.update.now c.args.t c.latest.result c.part_hash.result c.args.stored.now.link
    update whole c.latest.ensures c.part_hash.ensures c.requires.linked
