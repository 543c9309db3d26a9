use Rattle.std.proofs.Common.{rules, refl, sym, subst, ◌≡◌, ◌++◌, ◌+◌, ◌∷◌, [], Some, slice_get, arith}
use Rattle.std.proofs.lemmas.Option.{slice_get_read}
use Rattle.coniks_tree.specs.Parts.{AllPlaced}
use Rattle.coniks_tree.proofs.Lemmas.{AllPlaced-next}
use Rattle.coniks_base_tests.proofs.records.changes_to.Goals as goal

pub loop-position-preserved : goal.loop-position-preserved
loop-position-preserved c = λ old sized.
    let records = c.args.records.now in
    let place : c.in_ok-place.place ≡ c.args.first + c.loop-position.position = search rules in
    let at : slice_get records c.loop-position.position ≡ Some c.index-records-position.result =
    slice_get_read records _ c.loop-position.position c.index-records-position.result refl c.loop-position-test.true c.index-records-position.is in
    let items : c.push.new.self.items ≡ c.loop-position.changes.items ++ c.change_to.result ∷ [] = search rules in
    subst (AllPlaced (old ++ records)) (sym items)
    (AllPlaced-next old records c.loop-position.changes.items c.change_to.result c.in_ok-place.place c.loop-position.position c.index-records-position.result
    (omega (arith, place, sized)) at c.change_to.ensures (c.loop-position.invariant old sized))
