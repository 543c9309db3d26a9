use Rattle.std.proofs.Common.{◌≡◌, ◌++◌, ◌+◌, ◌∙◌, length, true, false, ap, sym, subst, arith, append_assoc}
use Rattle.coniks_proof.specs.Bits.{child}
use Rattle.coniks_proof.specs.Changes.{AreInOrder}
use Rattle.coniks_proof.specs.Entries.{half}
use Rattle.coniks_tree.specs.Trees.{table_of}
use Rattle.coniks_proof.proofs.Lemmas.{length-child}
use Rattle.coniks_tree.specs.Levels.{AllOpen, SideGrows}
use Rattle.coniks_tree.specs.Parts.{Fits, Stands, entries_in}
use Rattle.coniks_tree.proofs.LevelLemmas.{AllOpen-append, IsCut, divides}
use Rattle.coniks_tree.proofs.levels.divide.Goals as goal

pub returns : goal.returns
returns c = λ by.
    let p = c.args.prefix.now in
    let cs = c.args.changes.now in
    let t = table_of c.args.tree.now in
    let at = c.len-level.ensures.len in
    let l = c.opened-left.result.0 in
    let r = c.opened-left.result.1 in
    let csl = c.sides.result.0.now in
    let csr = c.sides.result.1.now in
    let down-left : c.len-level.result + 1 ≡ length c.child.result = omega (arith, at, ap length c.child.ensures, length-child p false) in
    let down-right : c.len-level.result + 1 ≡ length c.child-2.result = omega (arith, at, ap length c.child-2.ensures, length-child p true) in
    let on-left = c.in_ok-left.ensures by t (subst (λ k. Fits (length t.nodes) k l) down-left c.opened-left.ensures.left) in
    let on-right = c.in_ok-right.ensures by t (subst (λ k. Fits (length t.nodes) k r) down-right c.opened-left.ensures.right) in
    let cut : IsCut by t p c.args.part cs l r csl csr = record {
      short = c.requires.short;
      some = c.requires.some;
      unmade = c.opened-left.ensures.unmade;
      placed = c.opened-left.ensures.placed;
      keeps = c.opened-left.ensures.keeps;
      stands = λ entries s. subst (λ k. Stands by t l (child p false) (half false k entries) × Stands by t r (child p true) (half true k entries)) at
          (c.opened-left.ensures.stands by p entries (sym at) s);
      all_changes = c.sides.ensures.all;
      each = c.sides.ensures.placed;
      on_left = subst (λ k. AreInOrder k (entries_in cs) → entries_in csl ≡ half false k (entries_in cs)) at c.sides.ensures.left;
      on_right = subst (λ k. AreInOrder k (entries_in cs) → entries_in csr ≡ half true k (entries_in cs)) at c.sides.ensures.right;
    } in
    let left = subst (λ q. SideGrows by t q l csl c.in_ok-left.left on-left.0) c.child.ensures on-left.3 in
    let right = subst (λ q. SideGrows by t q r csr c.in_ok-right.right on-right.0) c.child-2.ensures on-right.3 in
    let open-left = subst (λ k. AllOpen (length t.nodes) k on-left.0) (sym down-left ∙ ap (λ k. k + 1) at) on-left.2 in
    let open-right = subst (λ k. AllOpen (length t.nodes) k on-right.0) (sym down-right ∙ ap (λ k. k + 1) at) on-right.2 in (
      on-left.0 ++ on-right.0,
      on-right.1 ∙ ap (λ xs. xs ++ on-right.0) on-left.1 ∙ append_assoc c.args.next.now.items on-left.0 on-right.0,
      AllOpen-append (length t.nodes) (length p + 1) on-left.0 on-right.0 open-left open-right,
      divides by t p c.args.part cs l r csl csr c.in_ok-left.left c.in_ok-right.right on-left.0 on-right.0 cut left right,
    )
