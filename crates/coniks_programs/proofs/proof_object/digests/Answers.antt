use Rattle.std.proofs.Common.{◌≡◌, [], ◌∷◌, ◌++◌, arith}
use Rattle.std.proofs.lemmas.Grind.{common_steps}
use Rattle.coniks_programs.proofs.ProofObjectLemmas.{one_more_digest}
use Rattle.coniks_programs.proofs.proof_object.digests.Goals as goal

pub loop-element-preserved : goal.loop-element-preserved
loop-element-preserved c =
    let pushed : c.push.new.self.items ≡ c.loop-element.found.items ++ c.in-Some.digest ∷ [] = grind (arith, common_steps) in
    one_more_digest c.args.elements.now c.loop-element.element-index c.element-item.result c.loop-element.found.items
    c.push.new.self.items c.in-Some.digest c.loop-element-test.true c.element-item.is c.in-Some.ensures pushed c.loop-element.invariant
