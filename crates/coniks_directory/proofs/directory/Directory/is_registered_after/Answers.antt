use Rattle.std.proofs.Common.{◌≡◌, ap, map, sym, true, ◌∙◌, ◌||◌}
use Rattle.coniks_directory.proofs.Words.{has_name, history_of, latest_registry, registered_of, state_of}
use Rattle.coniks_directory.proofs.AgreementLemmas.{leaves_name}
use Rattle.coniks_directory.proofs.directory.Directory.is_registered_after.Goals as goal

pub returns-then-is_registered_at : goal.returns-then-is_registered_at
returns-then-is_registered_at g c =
    let d = c.self.inside in
    let p = c.args.update.now in
    let name = c.args.name.now in
    let there : has_name (latest_registry (history_of (state_of d.stored))) name ≡ true = rw (← c.self.view_is) at (sym c.is_registered_at.ensures ∙ c.if-is_registered_at.true) in
    rw (← c.self.view_is)
    (c.if-is_registered_at.true
    ∙ sym (leaves_name (g.H.Hash32.digest_of d.h) (g.X.IndexSource.index_of d.source) (state_of d.stored)
    p name c.self.invariant.whole ∙ ap (λ v. v || has_name (map registered_of p.records.items) name) there))

pub returns-else-is_registered_at : goal.returns-else-is_registered_at
returns-else-is_registered_at g c =
    let d = c.self.inside in
    let p = c.args.update.now in
    let name = c.args.name.now in
    let gone = rw (← c.self.view_is) at (sym c.is_registered_at.ensures ∙ c.if-is_registered_at.false) in
    rw (← c.self.view_is)
    (c.binds.ensures
    ∙ sym (leaves_name (g.H.Hash32.digest_of d.h) (g.X.IndexSource.index_of d.source) (state_of d.stored)
    p name c.self.invariant.whole ∙ ap (λ v. v || has_name (map registered_of p.records.items) name) gone))
