use Rattle.std.proofs.Common.{refl, ap, ◌∙◌, ◌++◌, []}
use Rattle.coniks_tree.specs.Trees.{table_of}
use Rattle.coniks_tree.specs.Entries.{entries_at, in_order}
use Rattle.coniks_tree.proofs.PathLemmas.{Shows-apart}
use Rattle.coniks_tree.proofs.EntriesLemmas.{in_order-Lists}
use Rattle.coniks_tree.proofs.tree.Tree.entries.Goals as goal

pub returns-clause-lists : goal.returns-clause-lists
returns-clause-lists c = λ by entries s.
    let records = c.args.self.now.records in
    in_order-Lists c.in_ok-changes_at.field-0.items entries (Shows-apart by (table_of c.args.self.now) c.args.root.0 entries s)
    (c.in_ok-changes_at.ensures.same ∙ ap (entries_at records) c.deref.ensures.value
    ∙ c.in_ok-list_places.ensures.lists by [] entries refl s
    ∙ ap (λ ps. entries_at records ps ++ in_order 0 entries) c.new-places.ensures.items)
