use Rattle.coniks_directory.proofs.Words.{state_of}
use Rattle.coniks_directory.proofs.AgreementLemmas.{whole_agree}
use Rattle.coniks_directory.proofs.directory.Directory.next_body.Goals as goal

pub returns : goal.returns
returns g c = λ index agree update.
    let d = c.self.inside in
    let hash = g.H.Hash32.digest_of d.h in
    let s = state_of d.stored in
    let agree' = rw (← c.self.view_is) at agree in
    let update' = rw (← c.self.view_is) at update in
    rw (← c.self.view_is) (c.make_body.ensures index (whole_agree hash (g.X.IndexSource.index_of d.source) index s agree' c.self.invariant.whole) update')
