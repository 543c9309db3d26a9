use Rattle.std.proofs.Common.{subst, sym}
use Rattle.coniks_directory.specs.Supplied.{supplied_index}
use Rattle.coniks_directory.specs.SuppliedBatches.{IsSuppliedUpdate}
use Rattle.coniks_directory_tests.proofs.RunSteps.{install_supplied_step, next_still}
use Rattle.coniks_directory_tests.proofs.tests.runs.install_supplied_next.Goals as goal

pub returns-clause-run : goal.returns-clause-run
returns-clause-run g c =
    let e = c.install_supplied.ensures in
    install_supplied_step g.H.Hash32.digest_of c.install_supplied.result c.args.directory.now
    c.install_supplied.new.self c.args.update c.args.entry.body.t c.args.entry
    e.installed e.outcome e.same (c.directories_grow.ensures.stays c.args.directory.now.state) e.retained.grows

-- the update that is returned is one of the directory that is left
pub returns-clause-still : goal.returns-clause-still
returns-clause-still g c =
    let e = c.install_supplied.ensures in
    let old = c.args.directory.now in
    let new = c.install_supplied.new.self in
    let digest = g.H.Hash32.digest_of in
    let r = c.requires in
    next_still digest c.install_supplied.result old new c.args.update c.args.entry r.index e.outcome e.same e.unchanged
    (subst (λ (h : g.row.H.Denot). IsSuppliedUpdate (digest h) (supplied_index new.index) new.state c.args.update r.index) (sym e.same.hash)
    (c.supplied_updates_stay.ensures (digest old.hash) (supplied_index old.index) (supplied_index new.index) r.index old.state new.state c.args.update e.retained.grows e.same.agree r.supplied))
    r.body
