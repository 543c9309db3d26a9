use Rattle.std.proofs.Common.{[], ap, option_map, sym}
use Rattle.coniks_proof.specs.Hashing.{hashing}
use Rattle.coniks_directory.proofs.Words.{root_at, state_of}
use Rattle.coniks_directory.proofs.LookupLemmas.{rooted}
use Rattle.coniks_directory.proofs.directory.Directory.root_at.Goals as goal

pub node_hash-requires : goal.node_hash-requires
node_hash-requires g c =
    let d = c.self.inside in
    (c.in-Some.ensures (g.H.Hash32.digest_of d.h) (g.X.IndexSource.index_of d.source) c.self.invariant.whole).holds.known

pub returns-in-Some : goal.returns-in-Some
returns-in-Some g c =
    let d = c.self.inside in
    let hash = g.H.Hash32.digest_of d.h in
    let found = c.in-Some.ensures hash (g.X.IndexSource.index_of d.source) c.self.invariant.whole in
    rw (← c.self.view_is) (rooted hash (g.X.IndexSource.index_of d.source) (state_of d.stored) c.args.t c.in-Some.epoch _ found c.node_hash.result.0
    (λ entries shows. c.node_hash.ensures (hashing hash c.in-Some.epoch.nonce.0) [] entries shows))

pub returns-in-None : goal.returns-in-None
returns-in-None g c =
    let d = c.self.inside in
    let none = c.in-None.ensures (g.H.Hash32.digest_of d.h) (g.X.IndexSource.index_of d.source) c.self.invariant.whole in
    rw (← c.self.view_is) (sym (ap (option_map (root_at (g.H.Hash32.digest_of d.h) (g.X.IndexSource.index_of d.source))) none))
