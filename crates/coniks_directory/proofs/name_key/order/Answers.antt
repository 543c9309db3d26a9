use Rattle.std.proofs.Common.{◌∙◌, ap, arith, refl, w64}
use Rattle.std.specs.Int.{from_be_bytes}
use Rattle.coniks_directory.proofs.NameLemmas.{bytes_drop, decided, passed}
use Rattle.coniks_directory.proofs.name_key.order.Goals as goal

pub loop-x-init : goal.loop-x-init
loop-x-init c = ((λ k. (c.type_inv.a k).fits), (λ k. (c.type_inv.b k).fits), refl)

pub returns-then-x-y : goal.returns-then-x-y
returns-then-x-y c =
    let x = c.in-Some-Some.ensures.cases in
    let y = c.in-Some-Some.ensures'.cases in
    let left = c.loop-x.invariant in
    c.cmp.ensures
    ∙ decided c.loop-x.rest.now c.loop-x.other.now (omega (arith, x.2)) (omega (arith, y.2)) left.0 left.1 _ _
    (c.from_be_bytes-x.ensures ∙ ap (from_be_bytes w64) x.0) (c.from_be_bytes-y.ensures ∙ ap (from_be_bytes w64) y.0) c.if-x-y.true
    ∙ left.2

pub loop-x-preserved : goal.loop-x-preserved
loop-x-preserved c =
    let x = c.in-Some-Some.ensures.cases in
    let y = c.in-Some-Some.ensures'.cases in
    let left = c.loop-x.invariant in
    rw (x.1, y.1) (
      bytes_drop 8 c.loop-x.rest.now left.0,
      bytes_drop 8 c.loop-x.other.now left.1,
      passed c.loop-x.rest.now c.loop-x.other.now (omega (arith, x.2)) (omega (arith, y.2)) left.0 left.1 _ _
          (c.from_be_bytes-x.ensures ∙ ap (from_be_bytes w64) x.0) (c.from_be_bytes-y.ensures ∙ ap (from_be_bytes w64) y.0) c.if-x-y.false
          ∙ left.2,
    )
