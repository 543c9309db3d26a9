use Rattle.std.proofs.Common.{◌∙◌, List, ap, length}
use Rattle.coniks_chain.specs.Chain.{before_at, link_before}
use Rattle.coniks_chain.specs.declared.entry.Entry.{Entry}
use Rattle.coniks_directory.proofs.Words.{state_of}
use Rattle.coniks_directory.proofs.HeadLemmas.{link_of_last}
use Rattle.coniks_directory.proofs.directory.Directory.latest_link.Goals as goal

pub returns-clause-link : goal.returns-clause-link
returns-clause-link g c = rw (← c.self.view_is) c.self.invariant.linked

pub returns-clause-of_last : goal.returns-clause-of_last
returns-clause-of_last g c = λ earlier entry same.
    let d = c.self.inside in
    let hash = g.H.Hash32.digest_of d.h in
    let before = (state_of d.stored).before in
    let is = rw (← c.self.view_is) at same in
    rw (← c.self.view_is)
    (c.self.invariant.linked
    ∙ ap (λ (chain : List Entry). link_before (before_at hash before chain (length chain))) is
    ∙ link_of_last hash before earlier entry)
