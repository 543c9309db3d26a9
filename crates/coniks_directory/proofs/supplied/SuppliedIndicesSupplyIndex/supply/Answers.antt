use Rattle.std.proofs.Common.{ap, map, refl, ◌∙◌}
use Rattle.coniks_directory.proofs.Words.{is_eq-slice_cmp}
use Rattle.coniks_directory.specs.SuppliedBatches.{put_index}
use Rattle.coniks_directory.proofs.SuppliedBatchLemmas.{seen_insert}
use Rattle.coniks_directory.proofs.SuppliedLemmas.{seen, supplied_more}
use Rattle.coniks_directory.proofs.supplied.SuppliedIndicesSupplyIndex.supply.Goals as goal

pub returns-clause-supplied : goal.returns-clause-supplied
returns-clause-supplied c =
    rw (← c.self.view_is, c.in_ok-insert.ensures.entries)
    (supplied_more (λ k. k) _ (λ x y. is_eq-slice_cmp x y) c.new.result c.args.index c.self.inside.indices.entries c.args.name.now (c.new.ensures ∙ c.in_ok-name.ensures.items))

pub returns-clause-put : goal.returns-clause-put
returns-clause-put c =
    rw (← c.self.view_is, c.in_ok-insert.ensures.entries)
    (seen_insert (λ k. k) _ (λ x y. refl) c.new.result c.args.index c.self.inside.indices.entries
    ∙ ap (λ n. put_index (map (seen (λ k. k)) c.self.inside.indices.entries) n c.args.index.0) (c.new.ensures ∙ c.in_ok-name.ensures.items))
