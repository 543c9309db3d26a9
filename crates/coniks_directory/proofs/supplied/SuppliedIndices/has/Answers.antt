use Rattle.std.proofs.Common.{◌∙◌}
use Rattle.coniks_directory.proofs.Words.{is_eq, is_eq-slice_cmp, nat_cmp, slice_cmp}
use Rattle.coniks_directory.proofs.SuppliedLemmas.{supplied_has}
use Rattle.coniks_directory.proofs.supplied.SuppliedIndices.has.Goals as goal

pub returns : goal.returns
returns c =
    let name = c.args.name.now in
    rw (← c.self.view_is)
    (c.contains_key.ensures ∙ supplied_has (λ k. k) (λ k. is_eq (slice_cmp nat_cmp name k)) name (λ k. is_eq-slice_cmp name k) c.self.inside.indices.entries)
