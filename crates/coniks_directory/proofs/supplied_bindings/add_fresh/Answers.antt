use Rattle.std.proofs.Common.{◌≡◌, List, [], false, refl, subst, sym, true, ◌++◌, ◌∷◌, ◌∙◌}
use Rattle.coniks_directory.specs.Supplied.{Supplied, is_supplied, supplied_index}
use Rattle.coniks_directory.specs.SuppliedBatches.{IsFresh}
use Rattle.coniks_directory.proofs.SuppliedBatchLemmas.{fresh_retained, fresh_put, fresh_skip}
use Rattle.coniks_directory.proofs.supplied_bindings.add_fresh.Goals as goal

pub returns-then-binds : goal.returns-then-binds
returns-then-binds c = λ hash bound named s f.
    let is = c.binds.ensures hash (supplied_index c.args.source.now) bound s c.index-own.ensures in
    fresh_skip bound c.args.fresh.now named c.args.name.now c.args.index.0 (sym is ∙ c.if-binds.true) f

pub returns : goal.returns
returns c = λ hash bound named s f.
    let is = c.binds.ensures hash (supplied_index c.args.source.now) bound s c.index-own.ensures in
    let fresh = c.args.fresh.now in
    let name = c.args.name.now in
    let index = c.args.index.0 in
    let gone = sym is ∙ c.if-binds.false in
    let all : List Supplied = named ++ (name, index) ∷ [] in
    (elim (is_supplied fresh name) as (λ b. is_supplied fresh name ≡ b → IsFresh bound c.supply_first.new.self all) [
      | true ↦ λ there. subst (λ (xs : List Supplied). IsFresh bound xs all) (sym (c.in_ok-supply_first.ensures.retained there)) (fresh_retained bound fresh named name index gone there f)
      | false ↦ λ free. subst (λ (xs : List Supplied). IsFresh bound xs all) (sym (c.in_ok-supply_first.ensures.put free)) (fresh_put bound fresh named name index gone free f)
    ]) refl
