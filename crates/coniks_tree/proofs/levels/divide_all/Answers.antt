use Rattle.std.proofs.Common.{◌≡◌, ◌∷◌, ◌++◌, ◌+◌, [], length, ap, ◌∙◌, sym, subst, arith, refl, append_assoc}
use Rattle.std.proofs.lemmas.List.{nil_from_length}
use Rattle.coniks_proof.specs.Hashing.{hashing}
use Rattle.coniks_tree.specs.Trees.{table_of}
use Rattle.coniks_tree.specs.Levels.{AllDivide, AllOpen}
use Rattle.coniks_tree.specs.declared.levels.Opened.{Opened}
use Rattle.coniks_tree.proofs.LevelLemmas.{AllDivide-end, AllDivide-step, AllOpen-append}
use Rattle.coniks_tree.proofs.levels.divide_all.Goals as goal

pub loop-one-preserved : goal.loop-one-preserved
loop-one-preserved c =
    let n = length c.args.tree.now.nodes in
    let rest = c.pop_front.new.self.items in
    let popped : c.loop-one.growing.items ≡ c.in-Some.one ∷ rest = c.in-Some.ensures.items in
    let o : Opened = record { prefix = c.in-Some.one.prefix; left = c.in_ok-left.left; right = c.in_ok-left.right } in
    let pushed : c.push_back.new.self.items ≡ c.loop-one.opened.items ++ o ∷ [] = c.in_ok-push_back.ensures.items in
    let here = subst (AllOpen n c.args.level) popped c.loop-one.invariant.open_before in
    let any = c.in_ok-left.ensures (hashing (λ xs. xs) []) in
    record {
      open_before = here.1;
      open_below = subst (AllOpen n (c.args.level + 1)) (sym any.1)
          (AllOpen-append n (c.args.level + 1) c.loop-one.next.items any.0 c.loop-one.invariant.open_below (subst (λ k. AllOpen n (k + 1) any.0) here.0.long any.2));
      so_far = λ by opened next others.
          let more = c.in_ok-left.ensures by in
          let step = AllDivide-step by (table_of c.args.tree.now) c.loop-one.growing.items rest c.in-Some.one o opened more.0 next popped refl more.3 others in
          let whole = c.loop-one.invariant.so_far by (o ∷ opened) (more.0 ++ next) step in
          subst (λ os. AllDivide by (table_of c.args.tree.now) c.args.growing.items os (c.divide.new.next.items ++ next))
          (sym (ap (λ os. os ++ opened) pushed ∙ append_assoc c.loop-one.opened.items (o ∷ []) opened))
          (subst (λ gs. AllDivide by (table_of c.args.tree.now) c.args.growing.items (c.loop-one.opened.items ++ o ∷ opened) gs)
          (sym (ap (λ gs. gs ++ next) more.1 ∙ append_assoc c.loop-one.next.items more.0 next)) whole);
    }

pub returns-clause-divide : goal.returns-clause-divide
returns-clause-divide c = λ by.
    let none : c.loop-one.growing.items ≡ [] = nil_from_length c.loop-one.growing.items (omega (arith, c.in_default.ensures.cases)) in
    AllDivide-end by (table_of c.args.tree.now) c.args.growing.items c.loop-one.growing.items c.loop-one.opened.items c.loop-one.next.items none
    (c.loop-one.invariant.so_far by [] [])
