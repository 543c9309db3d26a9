use Rattle.coniks_directory.proofs.Words.{state_of}
use Rattle.coniks_directory.proofs.LookupLemmas.{all_own}
use Rattle.coniks_directory.proofs.directory.Directory.chain.Goals as goal

pub returns-clause-under : goal.returns-clause-under
returns-clause-under g c =
    let d = c.self.inside in
    rw (← c.self.view_is) c.self.invariant.whole.under

pub returns-clause-names : goal.returns-clause-names
returns-clause-names g c =
    let d = c.self.inside in
    rw (← c.self.view_is) (all_own (g.H.Hash32.digest_of d.h) (g.X.IndexSource.index_of d.source) (state_of d.stored) c.self.invariant.whole)
