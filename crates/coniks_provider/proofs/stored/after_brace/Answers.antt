use Rattle.std.proofs.Common.{◌≡◌, ap, sym, ◌∙◌, false, arith}
use Rattle.std.specs.Prelude.{◌==◌}
use Rattle.std.proofs.lemmas.Bool.Decides.{nat_tests}
use Rattle.coniks_provider.specs.Stored.{after_brace}
use Rattle.coniks_provider.proofs.stored.after_brace.Goals as goal

pub returns-then-first-eq123 : goal.returns-then-first-eq123
returns-then-first-eq123 c =
    let split = ap after_brace c.in-Some.ensures.cases.0 in
    let here = rw c.if-first-eq123.true at split in
    sym here ∙ c.loop-first.invariant

pub loop-first-preserved : goal.loop-first-preserved
loop-first-preserved c =
    let other : (c.in-Some.first.now == 123) ≡ false = let apart = c.if-first-eq123.false in grind (arith, nat_tests) in
    let split = ap after_brace c.in-Some.ensures.cases.0 in
    let on = rw other at split in
    sym on ∙ c.loop-first.invariant
