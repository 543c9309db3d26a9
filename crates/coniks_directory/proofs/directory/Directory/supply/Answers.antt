use Rattle.std.proofs.Common.{refl, sym}
use Rattle.coniks_directory.proofs.Words.{history_of, latest_registry, registry_after, state_of}
use Rattle.coniks_directory.specs.Supplied.{AgreeOn, MaySupply}
use Rattle.coniks_directory.proofs.AgreementLemmas.{supplied_agree, update_of_agree, whole_agree}
use Rattle.coniks_directory.proofs.directory.Directory.supply.Given as given
use Rattle.coniks_directory.proofs.directory.Directory.supply.Goals as goal

-- the index may be supplied, in terms of the directory's fields
may_in : (g : given.Over) (c : goal.In-Ok g) → (let d = c.self.inside in
    MaySupply (g.X.IndexSource.index_of d.source) (latest_registry (history_of (state_of d.stored))) c.args.name.now c.args.index.0)
may_in g c =
    let retained = rw (← c.self.view_is) at c.if-has_other_index.ensures.no refl in
    record { sized = sym c.if-not-is_name.ensures.value; retained = retained }

-- the new source agrees with the old one
agree_in : (g : given.Over) (c : goal.In-Ok g) → (let d = c.self.inside in
    AgreeOn (g.X.IndexSource.index_of d.source) (g.X.IndexSource.index_of c.supply.new.self) (latest_registry (history_of (state_of d.stored))))
agree_in g c =
    let d = c.self.inside in
    supplied_agree (g.X.IndexSource.index_of d.source) (g.X.IndexSource.index_of c.supply.new.self)
    c.args.name.now c.args.index.0 (latest_registry (history_of (state_of d.stored))) c.in-Ok.ensures.supplied
    (may_in g c).retained

pub invariant_of-self-2 : goal.invariant_of-self-2
invariant_of-self-2 g c =
    let d = c.self.inside in
    record {
      whole = whole_agree (g.H.Hash32.digest_of d.h) (g.X.IndexSource.index_of d.source) (g.X.IndexSource.index_of c.supply.new.self) (state_of d.stored) (agree_in g c) c.self.invariant.whole;
      linked = c.self.invariant.linked;
    }

pub returns-clause-agree : goal.returns-clause-agree
returns-clause-agree g c = rw (← c.self.view_is) (agree_in g c)

pub returns-clause-updates : goal.returns-clause-updates
returns-clause-updates g c = λ update retained was.
    let d = c.self.inside in
    let index_of = g.X.IndexSource.index_of d.source in
    let also = g.X.IndexSource.index_of c.supply.new.self in
    update_of_agree (g.H.Hash32.digest_of d.h) index_of also (state_of d.stored) update
    (supplied_agree index_of also c.args.name.now c.args.index.0 (registry_after (state_of d.stored) update) c.in-Ok.ensures.supplied (rw (← c.self.view_is) at retained)) (rw (← c.self.view_is) at was)
