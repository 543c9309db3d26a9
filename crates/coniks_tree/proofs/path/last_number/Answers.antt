use Rattle.coniks_tree.proofs.PathLemmas.{way_begins, way_goes_on, way_last}
use Rattle.std.proofs.Common.{[]}
use Rattle.coniks_tree.specs.Trees.{table_of}
use Rattle.coniks_tree.proofs.path.last_number.Goals as goal

pub loop-near-init : goal.loop-near-init
loop-near-init c = record {
  known = c.requires;
  way = λ by entries s. ([], way_begins by (table_of c.args.tree.now) c.args.index.now.0 entries c.args.root.0 s);
}

pub loop-near-preserved : goal.loop-near-preserved
loop-near-preserved c = record {
  known = c.in-Some.ensures.known;
  way = λ by entries s.
      let so_far = (c.loop-near.invariant.way by entries s).0 in
      let w = (c.loop-near.invariant.way by entries s).1 in (
        _,
        way_goes_on by (table_of c.args.tree.now) c.args.index.now.0 entries so_far c.loop-near.number c.in-Some.near c.loop-near.level c.in-Some._beside w
            (c.in-Some.ensures.down by w.prefix w.below w.at w.shows),
      );
}

pub returns-clause-ends : goal.returns-clause-ends
returns-clause-ends c = λ by entries s.
    let so_far = (c.loop-near.invariant.way by entries s).0 in
    let w = (c.loop-near.invariant.way by entries s).1 in
    way_last by (table_of c.args.tree.now) c.args.index.now.0 entries so_far c.loop-near.number c.loop-near.level w
    (c.step.ensures.last c.in_default.is by w.prefix w.below w.at w.shows)
