use Rattle.std.proofs.Common.{subst, sym}
use Rattle.coniks_directory.specs.Updates.{IsUpdateOf}
use Rattle.coniks_directory_tests.proofs.tests.clerk.Provider.install_both.Goals as goal

-- the second update is one of the directory after the first
pub install-requires-2 : goal.install-requires-2
install-requires-2 g c =
    let digest = g.H.Hash32.digest_of in
    let index = g.X.IndexSource.index_of in
    let old = c.args.self.now.directory in
    let new = c.install.new.self.directory in
    let same = c.install.ensures.same in
    subst (λ (h : g.row.H.Denot). IsUpdateOf (digest h) (index new.index) new.state c.args.second) (sym same.0)
    (subst (λ (x : g.row.X.Denot). IsUpdateOf (digest old.hash) (index x) new.state c.args.second) (sym same.1)
    (c.updates_stay.ensures.stays (digest old.hash) (index old.index) old.state new.state c.args.second c.install.ensures.grows c.requires.second))
