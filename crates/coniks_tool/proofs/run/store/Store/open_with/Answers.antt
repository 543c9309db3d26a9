use Rattle.std.proofs.Common.{◌≡◌, Option, None, sym, subst, ◌∙◌, rules}
use Rattle.coniks_tool.specs.Stores.{IsServedIf}
use Rattle.coniks_tool.specs.declared.run.store.Service.{Service}
use Rattle.coniks_tool.proofs.StoreLemmas.{none_opened}
use Rattle.coniks_tool.proofs.run.store.Store.open_with.Goals as goal

pub invariant_of-self : goal.invariant_of-self
invariant_of-self c =
    let opened = c.self.inside.opened in
    let none : opened ≡ None = none_opened opened (sym c.is_some.ensures ∙ c.if-is_some.false) in
    record {
      table = c.self.invariant.table;
      capacity = c.self.invariant.capacity;
      served = c.open.ensures.served c.self.inside.publisher (subst (λ (o : Option Service). IsServedIf c.self.inside.publisher o) none c.self.invariant.served);
    }

pub returns-then-is_some-clause-reply : goal.returns-then-is_some-clause-reply
returns-then-is_some-clause-reply c = search rules
