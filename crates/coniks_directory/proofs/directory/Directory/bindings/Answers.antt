use Rattle.std.proofs.Common.{ap, is_some, subst, sym}
use Rattle.coniks_proof.specs.Hashing.{hashing}
use Rattle.coniks_directory.proofs.Words.{AllPlaced, state_of}
use Rattle.coniks_directory.proofs.BindingsLemmas.{paged}
use Rattle.coniks_directory.proofs.directory.Directory.bindings.Goals as goal

pub returns-in_default-clause-refused : goal.returns-in_default-clause-refused
returns-in_default-clause-refused g c =
    let d = c.self.inside in
    rw (← c.self.view_is) (c.in_default.ensures (g.H.Hash32.digest_of d.h) (g.X.IndexSource.index_of d.source) c.self.invariant.whole)

pub page-requires : goal.page-requires
page-requires g c =
    let d = c.self.inside in
    (c.in-Some.ensures (g.H.Hash32.digest_of d.h) (g.X.IndexSource.index_of d.source) c.self.invariant.whole).holds.known

pub returns-in_default-page-clause-refused : goal.returns-in_default-page-clause-refused
returns-in_default-page-clause-refused g c =
    let d = c.self.inside in
    let found = c.in-Some.ensures (g.H.Hash32.digest_of d.h) (g.X.IndexSource.index_of d.source) c.self.invariant.whole in
    rw (← c.self.view_is) (ap is_some found.shown)

pub bindings_of-requires : goal.bindings_of-requires
bindings_of-requires g c =
    let records = c.self.inside.stored.tree.records in
    subst (AllPlaced records) (sym c.deref.ensures.value) (c.in-Ok.ensures.placed records (λ k v at. at))

pub returns-in-Ok-bindings_of-clause-page : goal.returns-in-Ok-bindings_of-clause-page
returns-in-Ok-bindings_of-clause-page g c =
    let d = c.self.inside in
    let hash = g.H.Hash32.digest_of d.h in
    let index_of = g.X.IndexSource.index_of d.source in
    let e = c.in-Some.epoch in
    rw (← c.self.view_is) (paged hash index_of (state_of d.stored) c.args.t e _ (c.in-Some.ensures hash index_of c.self.invariant.whole) c.args.after c.args.most
    c.in-Ok.page.items c.in-Ok-bindings_of.bindings.items
    (λ entries shows. c.in-Ok.ensures.page (hashing hash e.nonce.0) entries shows) (rw c.deref.ensures.value at c.in-Ok-bindings_of.ensures))

pub returns-clause-refused : goal.returns-clause-refused
returns-clause-refused g c =
    let d = c.self.inside in
    let found = c.in-Some.ensures (g.H.Hash32.digest_of d.h) (g.X.IndexSource.index_of d.source) c.self.invariant.whole in
    rw (← c.self.view_is) (ap is_some found.shown)
