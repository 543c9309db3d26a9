use Rattle.std.proofs.Common.{◌≡◌, List, ℕ, ap, is_some, refl, subst, sym}
use Rattle.coniks_proof.specs.Hashing.{hashing}
use Rattle.coniks_directory.proofs.Words.{IsPath, Whole, entries_of, history_of, latest_registry, shown_of, state_of}
use Rattle.coniks_directory.specs.Supplied.{AgreeOn}
use Rattle.coniks_directory.proofs.LookupLemmas.{accepted_there, pathed}
use Rattle.coniks_directory.proofs.AgreementLemmas.{whole_agree}
use Rattle.coniks_directory.proofs.directory.Directory.signed_lookup_at.Given as given
use Rattle.coniks_directory.proofs.directory.Directory.signed_lookup_at.Goals as goal

pub returns-in_default-clause-missed : goal.returns-in_default-clause-missed
returns-in_default-clause-missed g c =
    let d = c.self.inside in
    rw (← c.self.view_is) (c.in_default.ensures (g.H.Hash32.digest_of d.h) (g.X.IndexSource.index_of d.source) c.self.invariant.whole)

pub returns-then-not-is_name-clause-missed : goal.returns-then-not-is_name-clause-missed
returns-then-not-is_name-clause-missed g c =
    let d = c.self.inside in
    let found = c.in-Some.ensures (g.H.Hash32.digest_of d.h) (g.X.IndexSource.index_of d.source) c.self.invariant.whole in
    rw (← c.self.view_is) (ap is_some found.shown, sym c.if-not-is_name.ensures.value)

pub path-requires : goal.path-requires
path-requires g c =
    let d = c.self.inside in
    (c.in-Some.ensures (g.H.Hash32.digest_of d.h) (g.X.IndexSource.index_of d.source) c.self.invariant.whole).holds.known

-- the directory is one with the function that has the supplied index
whole_in : (g : given.Over) (c : goal.In-Ok g) → (index_of : List ℕ → List ℕ)
    → AgreeOn (g.X.IndexSource.index_of c.self.inside.source) index_of (latest_registry (history_of (state_of c.self.inside.stored)))
    → Whole (g.H.Hash32.digest_of c.self.inside.h) index_of (state_of c.self.inside.stored)
whole_in g c index_of agree =
    let d = c.self.inside in
    whole_agree (g.H.Hash32.digest_of d.h) (g.X.IndexSource.index_of d.source) index_of (state_of d.stored) agree c.self.invariant.whole

-- the path is that of the index in the tree of the epoch's registry
path_in : (g : given.Over) (c : goal.In-Ok g) → (let hash = g.H.Hash32.digest_of c.self.inside.h in (index_of : List ℕ → List ℕ)
    → AgreeOn (g.X.IndexSource.index_of c.self.inside.source) index_of (latest_registry (history_of (state_of c.self.inside.stored))) → index_of c.args.name.now ≡ c.args.supplied.0
    → IsPath (hashing hash c.in-Some.epoch.nonce.0) (entries_of hash index_of (shown_of c.self.inside.stored.tree.records c.in-Some.epoch).registry) (index_of c.args.name.now) c.in-Ok.proof)
path_in g c index_of agree at =
    let d = c.self.inside in
    let hash = g.H.Hash32.digest_of d.h in
    let e = c.in-Some.epoch in
    subst (λ i. IsPath (hashing hash e.nonce.0) (entries_of hash index_of (shown_of d.stored.tree.records e).registry) i c.in-Ok.proof) (sym at)
    (pathed hash index_of (state_of d.stored) c.args.t e _ (c.in-Some.ensures hash index_of (whole_in g c index_of agree))
    c.args.supplied.0 c.in-Ok.proof (λ entries shows. c.in-Ok.ensures (hashing hash e.nonce.0) entries shows))

pub returns-in-Ok-clause-entry : goal.returns-in-Ok-clause-entry
returns-in-Ok-clause-entry g c =
    let d = c.self.inside in
    rw (← c.self.view_is) (c.in-Some.ensures (g.H.Hash32.digest_of d.h) (g.X.IndexSource.index_of d.source) c.self.invariant.whole).signed

pub returns-in-Ok-clause-ok : goal.returns-in-Ok-clause-ok
returns-in-Ok-clause-ok g c = λ index_of suits.
    let d = c.self.inside in
    let agree' = rw (← c.self.view_is) at suits.0 in
    let at = suits.1 in
    let found = c.in-Some.ensures (g.H.Hash32.digest_of d.h) index_of (whole_in g c index_of agree') in
    rw (← c.self.view_is) (record { shown = _; installed = found.shown; sized = sym c.if-not-is_name.ensures.value; path = path_in g c index_of agree' at })

pub returns-in-Ok-clause-accepted : goal.returns-in-Ok-clause-accepted
returns-in-Ok-clause-accepted g c = λ index_of suits.
    let d = c.self.inside in
    let agree' = rw (← c.self.view_is) at suits.0 in
    let at = suits.1 in
    let found = c.in-Some.ensures (g.H.Hash32.digest_of d.h) index_of (whole_in g c index_of agree') in
    rw (← c.self.view_is) (accepted_there (g.H.Hash32.digest_of d.h) index_of (state_of d.stored) c.args.t c.in-Some.epoch _ found c.args.name.now c.in-Ok.proof (c.if-not-is_name.ensures.holds refl)
    (path_in g c index_of agree' at))

pub returns-in-Err-clause-missed : goal.returns-in-Err-clause-missed
returns-in-Err-clause-missed g c =
    let d = c.self.inside in
    let found = c.in-Some.ensures (g.H.Hash32.digest_of d.h) (g.X.IndexSource.index_of d.source) c.self.invariant.whole in
    let retained = rw (← c.self.view_is) at c.if-has_other_index.ensures.no refl in
    rw (← c.self.view_is) (ap is_some found.shown, record { sized = sym c.if-not-is_name.ensures.value; retained = retained })

pub returns-then-has_other_index-clause-missed : goal.returns-then-has_other_index-clause-missed
returns-then-has_other_index-clause-missed g c =
    let d = c.self.inside in
    let found = c.in-Some.ensures (g.H.Hash32.digest_of d.h) (g.X.IndexSource.index_of d.source) c.self.invariant.whole in
    let other = rw (← c.self.view_is) at c.if-has_other_index.ensures.yes refl in
    rw (← c.self.view_is) (ap is_some found.shown, sym c.if-not-is_name.ensures.value, other)
