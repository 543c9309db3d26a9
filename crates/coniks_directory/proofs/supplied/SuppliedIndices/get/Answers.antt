use Rattle.coniks_directory.proofs.Words.{is_eq, is_eq-slice_cmp, nat_cmp, slice_cmp}
use Rattle.coniks_directory.proofs.SuppliedLemmas.{found_none, found_some}
use Rattle.coniks_directory.proofs.supplied.SuppliedIndices.get.Goals as goal

pub returns-clause-some : goal.returns-clause-some
returns-clause-some c =
    let name = c.args.name.now in
    rw (← c.self.view_is) (found_some (λ k. k) (λ k. is_eq (slice_cmp nat_cmp name k)) name
    (λ k. is_eq-slice_cmp name k) c.self.inside.indices.entries c.get.result c.get.ensures.value)

pub returns-clause-none : goal.returns-clause-none
returns-clause-none c =
    let name = c.args.name.now in
    rw (← c.self.view_is) (found_none (λ k. k) (λ k. is_eq (slice_cmp nat_cmp name k)) name
    (λ k. is_eq-slice_cmp name k) c.self.inside.indices.entries c.get.result c.get.ensures.value)
