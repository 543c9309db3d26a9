use Rattle.std.proofs.Common.{refl, subst}
use Rattle.coniks_directory.proofs.Words.{HolderIs, history_of, latest_registry, state_of}
use Rattle.coniks_directory.proofs.directory.Directory.is_registered_at.Goals as goal

pub holder_at-requires : goal.holder_at-requires
holder_at-requires g c =
    let d = c.self.inside in
    (c.latest_root-root.ensures (g.H.Hash32.digest_of d.h) (g.X.IndexSource.index_of d.source) c.self.invariant.whole).known

pub returns : goal.returns
returns g c =
    let d = c.self.inside in
    let hash = g.H.Hash32.digest_of d.h in
    let index_of = g.X.IndexSource.index_of d.source in
    let registry = latest_registry (history_of (state_of d.stored)) in
    let holder = c.holder_at.ensures hash index_of _ registry ((c.latest_root-root.ensures hash index_of c.self.invariant.whole).shows _ refl) in
    rw (← c.self.view_is) (c.is_of.ensures index_of registry (subst (λ i. HolderIs index_of registry i c.holder_at.result) (rw (← c.self.view_is) at c.requires) holder))
