use Rattle.std.proofs.Common.{◌≡◌, List, [], false, refl, subst, sym, true, ◌++◌, ◌∷◌, ◌∙◌}
use Rattle.coniks_directory.proofs.Words.{history_of, latest_registry}
use Rattle.coniks_directory.specs.Supplied.{Supplied, is_supplied}
use Rattle.coniks_directory.specs.SuppliedBatches.{IsFresh}
use Rattle.coniks_directory.proofs.SuppliedBatchLemmas.{fresh_retained, fresh_put, fresh_skip}
use Rattle.coniks_directory.proofs.directory.Directory.add_fresh.Goals as goal

pub returns-then-is_registered_at-clause-fresh : goal.returns-then-is_registered_at-clause-fresh
returns-then-is_registered_at-clause-fresh g c = λ named f.
    let registry = latest_registry (history_of c.args.self.now.state) in
    fresh_skip registry c.args.fresh.now named c.args.name.now c.args.index.0 (sym c.is_registered_at.ensures ∙ c.if-is_registered_at.true) f

pub returns-clause-fresh : goal.returns-clause-fresh
returns-clause-fresh g c = λ named f.
    let registry = latest_registry (history_of c.args.self.now.state) in
    let fresh = c.args.fresh.now in
    let name = c.args.name.now in
    let index = c.args.index.0 in
    let gone = sym c.is_registered_at.ensures ∙ c.if-is_registered_at.false in
    let all : List Supplied = named ++ (name, index) ∷ [] in
    (elim (is_supplied fresh name) as (λ b. is_supplied fresh name ≡ b → IsFresh registry c.supply_first.new.self all) [
      | true ↦ λ there. subst (λ (xs : List Supplied). IsFresh registry xs all) (sym (c.in_ok-supply_first.ensures.retained there)) (fresh_retained registry fresh named name index gone there f)
      | false ↦ λ free. subst (λ (xs : List Supplied). IsFresh registry xs all) (sym (c.in_ok-supply_first.ensures.put free)) (fresh_put registry fresh named name index gone free f)
    ]) refl
