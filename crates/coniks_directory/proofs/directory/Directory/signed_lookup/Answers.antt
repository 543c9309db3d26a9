use Rattle.std.proofs.Common.{ap, is_some, refl, sym}
use Rattle.coniks_proof.specs.Hashing.{hashing}
use Rattle.coniks_directory.proofs.Words.{IsPath, entries_of, shown_of, state_of}
use Rattle.coniks_directory.proofs.LookupLemmas.{accepted_there, accepted_under, pathed}
use Rattle.coniks_directory.proofs.directory.Directory.signed_lookup.Given as given
use Rattle.coniks_directory.proofs.directory.Directory.signed_lookup.Goals as goal

pub returns-in_default-clause-missed : goal.returns-in_default-clause-missed
returns-in_default-clause-missed g c =
    let d = c.self.inside in
    rw (← c.self.view_is) (c.in_default.ensures (g.H.Hash32.digest_of d.h) (g.X.IndexSource.index_of d.source) c.self.invariant.whole)

pub returns-then-not-is_length-clause-missed : goal.returns-then-not-is_length-clause-missed
returns-then-not-is_length-clause-missed g c =
    let d = c.self.inside in
    let found = c.in-Some.ensures (g.H.Hash32.digest_of d.h) (g.X.IndexSource.index_of d.source) c.self.invariant.whole in
    rw (← c.self.view_is) (ap is_some found.shown, sym c.if-not-is_length.ensures.value)

pub path-requires : goal.path-requires
path-requires g c =
    let d = c.self.inside in
    (c.in-Some.ensures (g.H.Hash32.digest_of d.h) (g.X.IndexSource.index_of d.source) c.self.invariant.whole).holds.known

-- the path is that of the name's index in the tree of the epoch's registry
path_in : (g : given.Over) (c : goal.In-Ok g) → (let hash = g.H.Hash32.digest_of c.self.inside.h in let index_of = g.X.IndexSource.index_of c.self.inside.source in
    IsPath (hashing hash c.in-Some.epoch.nonce.0) (entries_of hash index_of (shown_of c.self.inside.stored.tree.records c.in-Some.epoch).registry) (index_of c.args.name.now) c.in-Ok.proof)
path_in g c =
    let d = c.self.inside in
    let hash = g.H.Hash32.digest_of d.h in
    let index_of = g.X.IndexSource.index_of d.source in
    let e = c.in-Some.epoch in
    rw (← c.index-index.ensures) (pathed hash index_of (state_of d.stored) c.args.t e _ (c.in-Some.ensures hash index_of c.self.invariant.whole) c.index-index.result.0 c.in-Ok.proof
    (λ entries shows. c.in-Ok.ensures (hashing hash e.nonce.0) entries shows))

pub returns-in-Ok-clause-entry : goal.returns-in-Ok-clause-entry
returns-in-Ok-clause-entry g c =
    let d = c.self.inside in
    rw (← c.self.view_is) (c.in-Some.ensures (g.H.Hash32.digest_of d.h) (g.X.IndexSource.index_of d.source) c.self.invariant.whole).signed

pub returns-in-Ok-clause-index : goal.returns-in-Ok-clause-index
returns-in-Ok-clause-index g c = rw (← c.self.view_is) c.index-index.ensures

pub returns-in-Ok-clause-ok : goal.returns-in-Ok-clause-ok
returns-in-Ok-clause-ok g c =
    let d = c.self.inside in
    let found = c.in-Some.ensures (g.H.Hash32.digest_of d.h) (g.X.IndexSource.index_of d.source) c.self.invariant.whole in
    rw (← c.self.view_is) (record { shown = _; installed = found.shown; sized = sym c.if-not-is_length.ensures.value; path = path_in g c })

pub returns-in-Ok-clause-accepted : goal.returns-in-Ok-clause-accepted
returns-in-Ok-clause-accepted g c =
    let d = c.self.inside in
    let index_of = g.X.IndexSource.index_of d.source in
    let found = c.in-Some.ensures (g.H.Hash32.digest_of d.h) index_of c.self.invariant.whole in
    rw (← c.self.view_is) (accepted_there (g.H.Hash32.digest_of d.h) index_of (state_of d.stored) c.args.t c.in-Some.epoch _ found c.args.name.now c.in-Ok.proof (c.if-not-is_length.ensures.holds refl)
    (path_in g c))

pub returns-in-Ok-clause-checks : goal.returns-in-Ok-clause-checks
returns-in-Ok-clause-checks g c =
    let d = c.self.inside in
    let hash = g.H.Hash32.digest_of d.h in
    let index_of = g.X.IndexSource.index_of d.source in
    let s = state_of d.stored in
    let found = c.in-Some.ensures hash index_of c.self.invariant.whole in
    rw (← c.self.view_is) (accepted_under hash index_of s c.args.t c.in-Some.epoch _ found c.args.name.now _ refl c.index-index.ensures
    (accepted_there hash index_of s c.args.t c.in-Some.epoch _ found c.args.name.now c.in-Ok.proof (c.if-not-is_length.ensures.holds refl) (path_in g c)))

pub returns-in-Err-clause-missed : goal.returns-in-Err-clause-missed
returns-in-Err-clause-missed g c =
    let d = c.self.inside in
    let found = c.in-Some.ensures (g.H.Hash32.digest_of d.h) (g.X.IndexSource.index_of d.source) c.self.invariant.whole in
    rw (← c.self.view_is) (ap is_some found.shown, sym c.if-not-is_length.ensures.value)
