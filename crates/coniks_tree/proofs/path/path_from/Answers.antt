use Rattle.coniks_tree.proofs.PathLemmas.{OnWay, way_goes_on, way_reported, way_ends}
use Rattle.coniks_tree.specs.Paths.{PathStopsAt}
use Rattle.coniks_tree.specs.Table.{registered_at}
use Rattle.coniks_tree.specs.Trees.{table_of}
use Rattle.coniks_proof.specs.Paths.{EndIs, digests, end_of}
use Rattle.coniks_proof.proofs.Lemmas.{end_of-backed, siblings-backed}
use Rattle.std.proofs.Common.{sym, ap, subst, ◌∙◌, map, ◌+◌, ◌∷◌, []}
use Rattle.std.proofs.lemmas.List.{map-append}
use Rattle.coniks_tree.proofs.path.path_from.Goals as goal

pub loop-near-preserved : goal.loop-near-preserved
loop-near-preserved c = record {
  known = c.in-Some.ensures.known;
  way = λ by entries s.
      let w = c.loop-near.invariant.way by entries s in
      let so_far = map (λ d. d.0) c.loop-near.siblings.items in
      let pushed = ap (map (λ d. d.0)) c.in_ok-push.ensures.items ∙ map-append (λ d. d.0) c.loop-near.siblings.items (c.in-Some.sibling ∷ []) in
      subst (λ xs. OnWay by (table_of c.args.tree.now) c.args.index.now.0 entries xs c.in-Some.near (c.loop-near.level + 1)) (sym pushed)
      (way_goes_on by (table_of c.args.tree.now) c.args.index.now.0 entries so_far c.loop-near.number c.in-Some.near c.loop-near.level c.in-Some.sibling w
      (c.in-Some.ensures.down by w.prefix w.below w.at w.shows));
}

pub returns : goal.returns
returns c = λ by entries s.
    let records = c.args.tree.now.records in
    let index = c.args.index.now.0 in
    let w = c.loop-near.invariant.way by entries s in
    let so_far = map (λ d. d.0) c.loop-near.siblings.items in
    let few = c.step.ensures.last c.in_default.is by w.prefix w.below w.at w.shows in
    let stops = subst (PathStopsAt records index c.stop_at.result)
    (way_ends by (table_of c.args.tree.now) index entries so_far c.loop-near.number c.loop-near.level w few)
    (c.stop_at.ensures.stops by w.prefix w.below few w.shows) in
    record {
      siblings_are = ap digests c.new.ensures
          ∙ way_reported by (table_of c.args.tree.now) index entries so_far c.loop-near.number c.loop-near.level w few
          ∙ sym (siblings-backed (registered_at records) by [] index entries);
      end_is = subst (λ es. EndIs index es c.in_ok-end.end) (sym (end_of-backed (registered_at records) [] index entries))
          (c.in_ok-end.ensures index (end_of [] index entries) stops);
    }
