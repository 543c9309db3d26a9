use Rattle.coniks_tree.proofs.PathLemmas.{Shows-record}
use Rattle.std.proofs.Common.{sym, ◌∙◌}
use Rattle.std.proofs.lemmas.Slice.Eq.{bytes_eq-Decides}
use Rattle.coniks_tree.specs.Trees.{table_of}
use Rattle.coniks_tree.proofs.path.stop_at.Goals as goal

pub returns-then-eq-clause-stops : goal.returns-then-eq-clause-stops
returns-then-eq-clause-stops c = λ by prefix entries few s.
    let found = c.record-found.result.now in (
      found,
      c.record-found.ensures,
      Shows-record by (table_of c.args.tree.now) prefix entries c.args.number c.in-Leaf.place c.in-Leaf.field-1 found c.in-Leaf.ensures.at c.record-found.ensures s,
      (bytes_eq-Decides found.index.0 c.args.index.now.0).0 (sym c.eq.ensures ∙ c.if-eq.true),
    )

pub returns-else-eq-clause-stops : goal.returns-else-eq-clause-stops
returns-else-eq-clause-stops c = λ by prefix entries few s.
    let found = c.record-found.result.now in (
      c.in-Leaf.place.0,
      Shows-record by (table_of c.args.tree.now) prefix entries c.args.number c.in-Leaf.place c.in-Leaf.field-1 found c.in-Leaf.ensures.at c.record-found.ensures s,
      λ same. let yes = (bytes_eq-Decides found.index.0 c.args.index.now.0).1 same in let no = sym c.eq.ensures ∙ c.if-eq.false in cc,
    )
