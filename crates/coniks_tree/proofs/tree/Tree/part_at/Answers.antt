use Rattle.std.proofs.Common.{refl, take, arith, length, ◌≡◌, length-take-le}
use Rattle.coniks_proof.specs.Entries.{under}
use Rattle.coniks_tree.specs.Trees.{table_of}
use Rattle.coniks_tree.proofs.PartLemmas.{down}
use Rattle.coniks_tree.proofs.tree.Tree.part_at.Goals as goal

pub loop-level-preserved : goal.loop-level-preserved
loop-level-preserved c = record {
  within = omega arith;
  fits = c.side-part.ensures.fits;
  unmade = c.side-part.ensures.unmade c.loop-level.invariant.unmade;
  whole = λ none. absurd (omega (arith, none));
  placed = λ all more. c.side-part.ensures.placed all more (c.loop-level.invariant.placed all more);
  stands = λ by entries s.
      let p = c.args.prefix.now in
      let k = c.loop-level.level in
      let sized : length (take k p) ≡ k = length-take-le k p c.loop-level.invariant.within in
      down by (table_of c.args.self.now) c.side-part.result p k c.at.result entries c.at.ensures
      (c.side-part.ensures.stands by (take k p) (under (take k p) entries) sized (c.loop-level.invariant.stands by entries s));
}

pub loop-level-init : goal.loop-level-init
loop-level-init c = record {
  within = omega arith;
  fits = c.requires;
  unmade = refl;
  whole = λ _. refl;
  placed = λ all more. tt;
  stands = λ by entries s. (s, λ below. absurd (omega (arith, below)));
}
