use Rattle.std.proofs.Common.{◌≡◌, ◌++◌, ◌∷◌, ◌+◌, [], List, ℕ, ap, length, refl, rules, subst, sym, take, ◌∙◌}
use Rattle.std.specs.declared.alloc.AllocError.{AllocError}
use Rattle.coniks_tree.specs.Parts.{Fits, Placed}
use Rattle.coniks_directory.proofs.Words.{IsNext, IsUpdate, Leaves, Record, State, Whole, before_at, history_of, latest_registry, registry_after, shown_after, state_of}
use Rattle.coniks_directory.specs.Supplied.{AgreeOn, Supplied, supplied_index}
use Rattle.coniks_directory.specs.SuppliedBatches.{IsSuppliedUpdate, LeavesIndices, indices_in, put_indices}
use Rattle.coniks_directory.specs.Updates.{nodes_added}
use Rattle.coniks_directory.specs.declared.update.InstallFault.TheVariants.{OutOfMemory}
use Rattle.coniks_directory.proofs.AgreementLemmas.{body_agree, update_of_agree, whole_agree}
use Rattle.coniks_directory.proofs.FreshLemmas.{fresh}
use Rattle.coniks_directory.proofs.InstallLemmas.{follows_still, linked_still}
use Rattle.coniks_directory.proofs.SuppliedBatchLemmas.{stored_take, retained_agree, left_some, of_ok, supplied_all}
use Rattle.coniks_directory.proofs.directory.supplying.Directory+H+SuppliedIndices.install_next.Goals.{After-enter, After-supply_all, Else-is_err-2, In_default}
use Rattle.coniks_directory.proofs.directory.supplying.Directory+H+SuppliedIndices.install_next.Given as given
use Rattle.coniks_directory.proofs.directory.supplying.Directory+H+SuppliedIndices.install_next.Goals as goal

-- the update is one of the current directory, by the function that it was prepared by
fresh_in : (g : given.Over) (c : In_default g) → IsUpdate (g.H.Hash32.digest_of c.self.inside.h) c.requires.next.index (state_of c.self.inside.stored) c.args.update
fresh_in g c =
    let d = c.self.inside in
    fresh (g.H.Hash32.digest_of d.h) c.requires.next.index (state_of d.stored) c.args.update (rw (← c.self.view_is) at c.requires.next.supplied.update) c.in_default.ensures.ok.fresh

-- the registered names keep their indices, however many of the update's were supplied
retained_in : (g : given.Over) (c : After-supply_all g)
    → (let d = c.self.inside in AgreeOn (supplied_index d.source) (supplied_index c.supply_all.new.source) (latest_registry (history_of (state_of d.stored))))
retained_in g c =
    let d = c.self.inside in
    let registry = latest_registry (history_of (state_of d.stored)) in
    let records = c.args.update.records.items in
    let index = c.requires.next.index in
    let u = rw (← c.self.view_is) at c.requires.next.supplied in
    let some = rw c.deref.ensures.value at c.supply_all.ensures.some.1 in
    let n = c.supply_all.ensures.some.0 in
    subst (λ (xs : List Supplied). AgreeOn (supplied_index d.source) (supplied_index xs) registry) (sym some)
    (retained_agree index d.source (indices_in (take n records)) registry (u.agree c.in_default.ensures.ok.fresh) (stored_take index records n u.stored))

-- so the directory still satisfies its invariant
whole_in : (g : given.Over) (c : After-supply_all g) → Whole (g.H.Hash32.digest_of c.self.inside.h) (supplied_index c.supply_all.new.source) (state_of c.self.inside.stored)
whole_in g c =
    let d = c.self.inside in
    whole_agree (g.H.Hash32.digest_of d.h) (supplied_index d.source) (supplied_index c.supply_all.new.source) (state_of d.stored) (retained_in g c) c.self.invariant.whole

-- once all are supplied, the source has them
put_in : (g : given.Over) (c : Else-is_err-2 g) → c.supply_all.new.source ≡ put_indices c.self.inside.source (indices_in c.args.update.records.items)
put_in g c =
    let source = c.self.inside.source in
    let read : c.supply_all.new.source ≡ put_indices source (indices_in c.deref.result.now) =
    of_ok {T = Unit {0}} {E = AllocError} c.supply_all.result _ c.if-is_err-2.ensures.value c.supply_all.ensures.put in
    read ∙ ap (λ (rs : List Record). put_indices source (indices_in rs)) c.deref.ensures.value

-- and it has the index of each name after the update
agree_in : (g : given.Over) (c : Else-is_err-2 g) (index : List ℕ → List ℕ) → (let d = c.self.inside in let s = state_of d.stored in
    IsSuppliedUpdate (g.H.Hash32.digest_of d.h) (supplied_index d.source) s c.args.update index
    → AgreeOn index (supplied_index c.supply_all.new.source) (registry_after s c.args.update))
agree_in g c index u =
    let d = c.self.inside in
    let s = state_of d.stored in
    let hash = g.H.Hash32.digest_of d.h in
    subst (λ (xs : List Supplied). AgreeOn index (supplied_index xs) (registry_after s c.args.update))
    (sym (put_in g c)) (supplied_all hash index d.source s c.args.update c.self.invariant.whole (u.agree c.in_default.ensures.ok.fresh) u.stored)

-- the entry's body is the next one by the source that is left
next_in : (g : given.Over) (c : Else-is_err-2 g) → (let d = c.self.inside in
    IsNext (g.H.Hash32.digest_of d.h) (supplied_index c.supply_all.new.source) (state_of d.stored) c.args.update c.args.entry.body.t c.args.entry.body)
next_in g c =
    let d = c.self.inside in
    let s = state_of d.stored in
    let r = rw (← c.self.view_is) at c.requires.next in
    r.body
    ∙ body_agree (g.H.Hash32.digest_of d.h) r.index (supplied_index c.supply_all.new.source) s.policy (before_at (g.H.Hash32.digest_of d.h) s.before s.chain (length s.chain))
    (shown_after s c.args.update c.args.entry.body.t) (agree_in g c r.index r.supplied)

-- and the update is one of the current directory by that source
update_in : (g : given.Over) (c : Else-is_err-2 g) → (let d = c.self.inside in
    IsUpdate (g.H.Hash32.digest_of d.h) (supplied_index c.supply_all.new.source) (state_of d.stored) c.args.update)
update_in g c =
    let d = c.self.inside in
    let s = state_of d.stored in
    let hash = g.H.Hash32.digest_of d.h in
    let source = supplied_index c.supply_all.new.source in
    let r = rw (← c.self.view_is) at c.requires.next in
    fresh hash source s c.args.update (update_of_agree hash r.index source s c.args.update (agree_in g c r.index r.supplied) r.supplied.update) c.in_default.ensures.ok.fresh

-- the state that is left is that of an install
left_in : (g : given.Over) (c : After-enter g) → (let d = c.self.inside in
    Leaves (g.H.Hash32.digest_of d.h) (supplied_index c.supply_all.new.source) (state_of d.stored) (state_of c.enter.new.stored) c.args.update c.args.entry.body.t c.args.entry)
left_in g c =
    let d = c.self.inside in
    let more = (goal.at.invariant_of-self-2 g c).Else-is_err-2 in
    c.enter.ensures.entered (state_of d.stored) c.make_room.ensures.same (supplied_index c.supply_all.new.source)
    (whole_in g (goal.at.invariant_of-self-2 g c).After-supply_all) (update_in g more) c.in_default.ensures.ok.later (next_in g more)

pub make_room-requires : goal.make_room-requires
make_room-requires g c = (fresh_in g (goal.at.make_room-requires g c).In_default).fits

pub enter-requires-clause-fits : goal.enter-requires-clause-fits
enter-requires-clause-fits g c =
    subst (λ (s : State). Fits (length s.nodes) 0 c.args.update.part) (sym c.make_room.ensures.same) (fresh_in g (goal.at.enter-requires-clause-fits g c).In_default).fits

pub enter-requires-clause-placed : goal.enter-requires-clause-placed
enter-requires-clause-placed g c =
    subst (λ (s : State). Placed (s.records ++ c.args.update.records.items) c.args.update.part) (sym c.make_room.ensures.same)
    (fresh_in g (goal.at.enter-requires-clause-placed g c).In_default).placed

pub returns-then-is_err : goal.returns-then-is_err
returns-then-is_err g c = record {
  installed = tt;
  outcome = search rules;
  same = search rules;
  retained = rw (← c.self.view_is) (follows_still g.H.Hash32.digest_of _ _ c.args.entry c.make_room.ensures.same refl);
  unchanged = search rules;
}

-- some of the indices were supplied, so the registered names have theirs
pub invariant_of-self-then-is_err-2 : goal.invariant_of-self-then-is_err-2
invariant_of-self-then-is_err-2 g c =
    record {
      whole = subst (λ (s : State). Whole (g.H.Hash32.digest_of c.self.inside.h) (supplied_index c.supply_all.new.source) s) (sym c.make_room.ensures.same)
          (whole_in g (goal.at.invariant_of-self-then-is_err-2 g c).After-supply_all);
      linked = linked_still (g.H.Hash32.digest_of c.self.inside.h) c.self.inside.stored c.make_room.new.stored c.make_room.ensures.same c.make_room.ensures.link c.self.invariant.linked;
    }

pub returns-then-is_err-2 : goal.returns-then-is_err-2
returns-then-is_err-2 g c =
    let source = c.self.inside.source in
    let records = c.args.update.records.items in
    let some = rw c.deref.ensures.value at c.supply_all.ensures.some.1 in
    record {
      installed = tt;
      outcome = search rules;
      same = rw (← c.self.view_is) (record { hash = refl; agree = retained_in g (goal.at.returns-then-is_err-2 g c).After-supply_all });
      retained = rw (← c.self.view_is) (follows_still g.H.Hash32.digest_of _ _ c.args.entry c.make_room.ensures.same refl);
      unchanged = rw (← c.self.view_is) (record {
        state = c.make_room.ensures.same;
        indices = subst (λ (xs : List Supplied). LeavesIndices (indices_in records) source xs OutOfMemory) (sym some) (left_some records source c.supply_all.ensures.some.0);
      });
    }

pub invariant_of-self-2 : goal.invariant_of-self-2
invariant_of-self-2 g c = record { whole = (left_in g c).whole; linked = c.enter.ensures.linked }

pub returns : goal.returns
returns g c =
    let d = c.self.inside in
    let s = state_of d.stored in
    let hash = g.H.Hash32.digest_of d.h in
    let more = (goal.at.returns g c).Else-is_err-2 in
    let left = left_in g (goal.at.returns g c).After-enter in
    record {
      installed = rw (← c.self.view_is) (record {
        epoch = λ index u. record {
          history = left.history;
          chain = c.enter.ensures.last ∙ ap (λ (t : State). t.chain ++ c.args.entry ∷ []) c.make_room.ensures.same;
          nodes = c.enter.ensures.count ∙ ap (λ (t : State). length t.nodes + nodes_added c.args.update) c.make_room.ensures.same;
          body = next_in g more ∙ sym (body_agree hash index (supplied_index c.supply_all.new.source) s.policy (before_at hash s.before s.chain (length s.chain))
              (shown_after s c.args.update c.args.entry.body.t) (agree_in g more index u));
        };
        indices = put_in g more;
        given = λ index u. agree_in g more index u;
      });
      outcome = search rules;
      same = rw (← c.self.view_is) (record { hash = refl; agree = retained_in g (goal.at.returns g c).After-supply_all });
      retained = rw (← c.self.view_is) (record { grows = left.grows; good = λ verdict signed good. left.good verdict verdict (λ b x. refl) signed good });
      unchanged = tt;
    }
