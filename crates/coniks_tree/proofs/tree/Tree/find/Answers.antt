use Rattle.std.proofs.Common.{subst, []}
use Rattle.coniks_proof.specs.Paths.{end_of}
use Rattle.coniks_tree.specs.Trees.{table_of}
use Rattle.coniks_tree.specs.Paths.{PathStopsAt}
use Rattle.coniks_tree.specs.declared.path.Stop.TheVariants.{Empty, Other, Here}
use Rattle.coniks_tree.proofs.PathLemmas.{Shows-apart, stop_found}
use Rattle.coniks_tree.proofs.tree.Tree.find.Goals as goal

pub returns-in-Empty-clause-finds : goal.returns-in-Empty-clause-finds
returns-in-Empty-clause-finds c = λ by entries s.
    let t = c.last_number.ensures.ends by entries s in
    let at = end_of [] c.args.index.now.0 entries in
    stop_found c.args.self.now.records c.args.index.now.0 entries Empty (Shows-apart by (table_of c.args.self.now) c.args.root.0 entries s)
    (subst (λ e. PathStopsAt c.args.self.now.records c.args.index.now.0 e at) c.in-Empty.is (c.stop_at.ensures.stops by t.0 at t.2 t.1))

pub returns-in-Other-clause-finds : goal.returns-in-Other-clause-finds
returns-in-Other-clause-finds c = λ by entries s.
    let t = c.last_number.ensures.ends by entries s in
    let at = end_of [] c.args.index.now.0 entries in
    stop_found c.args.self.now.records c.args.index.now.0 entries (Other _ _) (Shows-apart by (table_of c.args.self.now) c.args.root.0 entries s)
    (subst (λ e. PathStopsAt c.args.self.now.records c.args.index.now.0 e at) c.in-Other.is (c.stop_at.ensures.stops by t.0 at t.2 t.1))

pub returns-in-Here-clause-finds : goal.returns-in-Here-clause-finds
returns-in-Here-clause-finds c = λ by entries s.
    let t = c.last_number.ensures.ends by entries s in
    let at = end_of [] c.args.index.now.0 entries in
    stop_found c.args.self.now.records c.args.index.now.0 entries (Here _) (Shows-apart by (table_of c.args.self.now) c.args.root.0 entries s)
    (subst (λ e. PathStopsAt c.args.self.now.records c.args.index.now.0 e at) c.in-Here.is (c.stop_at.ensures.stops by t.0 at t.2 t.1))
