use Rattle.std.proofs.Common.{◌≡◌, ◌∷◌, ◌++◌, [], length, map, ap, ◌∙◌, sym, subst}
use Rattle.std.proofs.lemmas.List.{map-append}
use Rattle.coniks_proof.specs.Messages.{preimage_of}
use Rattle.coniks_proof.specs.declared.messages.Message.TheVariants.{Inner}
use Rattle.coniks_tree.specs.Joins.{AllHalved, PairsFit, requested_of, inner_of}
use Rattle.coniks_tree.specs.Trees.{table_of}
use Rattle.coniks_tree.proofs.JoinLemmas.{AllHalved-push, requested-fewer, same-more}
use Rattle.coniks_tree.proofs.joining.halve_all.Goals as goal

pub loop-pair-preserved : goal.loop-pair-preserved
loop-pair-preserved c =
    let rest = c.pop_front.new.self.items in
    let one = c.halve-one.result in
    let popped : c.loop-pair.rest.items ≡ c.in-Some.pair ∷ rest = c.in-Some.ensures.items in
    let pushed : c.push_back.new.self.items ≡ c.loop-pair.halved.items ++ one ∷ [] = c.in_ok-push_back.ensures.items in
    let requested : c.push.new.self.items ≡ c.loop-pair.messages.items ++ Inner one.left_hash one.right_hash ∷ [] = c.in_ok-push.ensures.items in
    record {
      fits = (subst (PairsFit (length c.args.tree.now.nodes)) popped c.loop-pair.invariant.fits).1;
      some = requested-fewer c.loop-pair.rest.items rest c.in-Some.pair (length c.loop-pair.hashes.items) (length c.halve-one.new.hashes.items) popped c.loop-pair.invariant.some c.halve-one.ensures.len;
      same = same-more _ c.loop-pair.rest.items rest c.in-Some.pair c.loop-pair.halved.items c.push_back.new.self.items one popped pushed c.halve-one.ensures.same c.loop-pair.invariant.same;
      inner = λ nonce. ap (map (preimage_of nonce)) requested ∙ map-append (preimage_of nonce) c.loop-pair.messages.items (Inner one.left_hash one.right_hash ∷ [])
          ∙ ap (λ xs. xs ++ inner_of one ∷ []) (c.loop-pair.invariant.inner nonce) ∙ sym (map-append inner_of c.loop-pair.halved.items (one ∷ [])) ∙ sym (ap (map inner_of) pushed);
      halved = λ by all.
          let before = c.loop-pair.invariant.halved by all in
          let now = c.halve-one.ensures.halved by (requested_of by.nonce rest) (before.1 ∙ ap (λ ps. map by.hash (requested_of by.nonce ps)) popped) in
          (subst (AllHalved by (table_of c.args.tree.now)) (sym pushed) (AllHalved-push by (table_of c.args.tree.now) c.loop-pair.halved.items one before.0 now.0), now.1);
    }
