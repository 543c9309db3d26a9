use Rattle.std.proofs.Common.{true, false, ◌+◌, ◌≤◌, ◌∙◌, arith, refl, sym}
use Rattle.coniks_proof.specs.Bits.{child}
use Rattle.coniks_tree.specs.Parts.{weight_of}
use Rattle.coniks_tree.proofs.CountLemmas.{joined-heavy, joined-light, light-count}
use Rattle.coniks_tree.proofs.PartLemmas.{hash_made, join_many, join_left, join_right}
use Rattle.coniks_tree.proofs.joining.joined.Goals as goal

pub returns-then-weight_left-eq1-clause-stands : goal.returns-then-weight_left-eq1-clause-stands
returns-then-weight_left-eq1-clause-stands c = λ by t entries short halved is sl sr.
    let pair = c.args.halved.pair in
    join_left by t pair.left pair.right pair.prefix entries (omega arith) (omega arith) sl sr

pub returns-then-weight_left-weight-lt2-clause-stands : goal.returns-then-weight_left-weight-lt2-clause-stands
returns-then-weight_left-weight-lt2-clause-stands c = λ by t entries short halved is sl sr.
    let pair = c.args.halved.pair in
    join_right by t pair.left pair.right pair.prefix entries (omega arith) (omega arith) sl sr

pub returns-clause-stands : goal.returns-clause-stands
returns-clause-stands c = λ by t entries short halved is sl sr.
    let pair = c.args.halved.pair in
    let p = pair.prefix in
    let heavy : 2 ≤ weight_of pair.left + weight_of pair.right = omega arith in
    let many = join_many by t pair.left pair.right p entries heavy sl sr in
    let left = halved.left _ sl in
    let right = halved.right _ sr in
    c.in_ok-made.ensures.stands by t p entries
    (record {
      many = many;
      is_hash = hash_made by p (child p false) (child p true) entries _ _ _ short many refl refl is left right;
      left = record { is_hash = left; stands = sl };
      right = record { is_hash = right; stands = sr };
    })

pub returns-then-weight_left-eq1-clause-new : goal.returns-then-weight_left-eq1-clause-new
returns-then-weight_left-eq1-clause-new c = let pair = c.args.halved.pair in light-count pair.left (omega arith) ∙ sym (joined-light pair.left pair.right (omega arith))

pub returns-then-weight_left-weight-lt2-clause-new : goal.returns-then-weight_left-weight-lt2-clause-new
returns-then-weight_left-weight-lt2-clause-new c = let pair = c.args.halved.pair in light-count pair.right (omega arith) ∙ sym (joined-light pair.left pair.right (omega arith))

pub returns-clause-new : goal.returns-clause-new
returns-clause-new c = let pair = c.args.halved.pair in c.in_ok-made.ensures.count ∙ sym (joined-heavy pair.left pair.right (omega arith))
