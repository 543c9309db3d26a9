use Rattle.std.proofs.Common.{ap, refl, ◌∙◌, arith}
use Rattle.coniks_proof.specs.Changes.{overwritten}
use Rattle.coniks_tree.specs.Parts.{entry_of_change}
use Rattle.coniks_tree.proofs.PartLemmas.{only_last, only_first, AllPlaced-first}
use Rattle.coniks_tree.proofs.growth.only_change.Goals as goal

pub returns-then-level-eq-MAX_LEVEL-clause-stands : goal.returns-then-level-eq-MAX_LEVEL-clause-stands
returns-then-level-eq-MAX_LEVEL-clause-stands c = λ by t prefix entries apart s.
    only_last entries c.args.changes.now c.first_of-first.result c.args.level c.first_of-first.ensures (omega arith) apart

pub returns-then-is_replaced-clause-stands : goal.returns-then-is_replaced-clause-stands
returns-then-is_replaced-clause-stands c = λ by t prefix entries apart s.
    let one = only_first c.args.changes.now c.first_of-first.result c.first_of-first.ensures (omega arith) in
    ap (overwritten entries) one ∙ c.is_replaced.ensures by t prefix entries (entry_of_change c.first_of-first.result) s refl c.if-is_replaced.true

pub returns-then-level-eq-MAX_LEVEL-clause-placed : goal.returns-then-level-eq-MAX_LEVEL-clause-placed
returns-then-level-eq-MAX_LEVEL-clause-placed c = λ all placed. AllPlaced-first all c.args.changes.now c.first_of-first.result c.first_of-first.ensures placed

pub returns-then-is_replaced-clause-placed : goal.returns-then-is_replaced-clause-placed
returns-then-is_replaced-clause-placed c = λ all placed. AllPlaced-first all c.args.changes.now c.first_of-first.result c.first_of-first.ensures placed
