use Rattle.std.proofs.Common.{sym}
use Rattle.coniks_directory.proofs.Words.{is_eq, is_eq-slice_cmp, nat_cmp, slice_cmp}
use Rattle.coniks_directory.proofs.SuppliedLemmas.{supplied_none, supplied_some}
use Rattle.coniks_directory.proofs.supplied.SuppliedIndicesIndexSource.index.Goals as goal

pub returns-in-Some : goal.returns-in-Some
returns-in-Some c =
    let name = c.args.name.now in
    rw (← c.self.view_is)
    (sym (supplied_some (λ k. k) (λ k. is_eq (slice_cmp nat_cmp name k)) name
    (λ k. is_eq-slice_cmp name k) c.self.inside.indices.entries c.in-Some.index.now (sym c.in-Some.ensures.value)))

pub returns-in-None : goal.returns-in-None
returns-in-None c =
    let name = c.args.name.now in
    rw (← c.self.view_is)
    (sym (supplied_none (λ k. k) (λ k. is_eq (slice_cmp nat_cmp name k)) name (λ k. is_eq-slice_cmp name k) c.self.inside.indices.entries (sym c.in-None.ensures.value)))
