use Rattle.std.proofs.Common.{sym, subst, ◌++◌}
use Rattle.coniks_tree.specs.Parts.{AllPlaced}
use Rattle.coniks_tree.proofs.Lemmas.{Extends-append}
use Rattle.measures.proofs.tree.registering.Registry.register.Goals as goal

pub add-requires-clause-placed : goal.add-requires-clause-placed
add-requires-clause-placed c =
    let old = c.args.self.now.tree.records in
    let new = c.in_ok-records.records.items in
    let changes = c.in_ok-changes.changes.items in
    let each : AllPlaced (old ++ new) changes = subst (λ rs. AllPlaced (old ++ rs) changes) c.deref.ensures.value (c.in_ok-changes.ensures old (sym c.records.ensures.count)) in
    c.in_ok-part.ensures.placed (old ++ new) (Extends-append old new) (c.part_before-part.ensures.placed (old ++ new) (Extends-append old new))
    (subst (AllPlaced (old ++ new)) (sym c.deref-2.ensures.value) each)
