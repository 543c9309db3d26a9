use Rattle.std.proofs.Common.{◌≡◌, List, ℕ, Option, ap, subst, sym, ◌∙◌}
use Rattle.coniks_directory.proofs.Words.{IsJudgedFault, IsUpdateBy, Nonce, Registry, View, Whole, history_of, latest_registry, length-map, operation_of, operations, option_map, state_of}
use Rattle.coniks_directory.specs.SuppliedBatches.{given_index, index_in, indexed}
use Rattle.coniks_directory.proofs.AgreementLemmas.{whole_agree}
use Rattle.coniks_directory.proofs.FreshLemmas.{prepared_of}
use Rattle.coniks_directory.proofs.SuppliedBatchLemmas.{given_agree, stored_is, judged_fault, long_fault, no_fault, other_fault, within_is}
use Rattle.coniks_directory.proofs.directory.Directory.prepared_with.Goals.{In-Ok, In-Ok-update_on}
use Rattle.coniks_directory.proofs.directory.Directory.prepared_with.Given as given
use Rattle.coniks_directory.proofs.directory.Directory.prepared_with.Goals as goal

-- a result that is found is the expected one
other_is : {a b c : Option ℕ} → b ≡ a → b ≡ c → a ≡ c
other_is is found = sym is ∙ found

pub returns-in-Err : goal.returns-in-Err
returns-in-Err g c =
    let index_of = g.X.IndexSource.index_of c.args.self.now.index in
    let registry = latest_registry (history_of c.args.self.now.state) in
    record {
      update = tt;
      installable = tt;
      indices = tt;
      accepted = tt;
      within = tt;
      faultless = tt;
      refused = long_fault index_of registry c.args.ops.items c.args.supplied.now c.requires c.in-Err.fault (rw c.deref.ensures.value at c.in-Err.ensures.refused);
    }

pub returns-in_default-indices_with : goal.returns-in_default-indices_with
returns-in_default-indices_with g c =
    let index_of = g.X.IndexSource.index_of c.args.self.now.index in
    let registry = latest_registry (history_of c.args.self.now.state) in
    record {
      update = tt;
      installable = tt;
      indices = tt;
      accepted = tt;
      within = tt;
      faultless = tt;
      refused = within_is index_of registry c.args.ops.items c.args.supplied.now c.requires (rw c.deref.ensures.value at c.in_default.ensures.few);
    }

-- the directory is one with the indices with which the batch is checked
whole_in : (g : given.Over) (c : In-Ok g) → (let d = c.self.inside in let s = state_of d.stored in let it = c.in-Ok.indices in
    Whole (g.H.Hash32.digest_of d.h) (given_index it.fresh (g.X.IndexSource.index_of it.source.now)) s)
whole_in g c =
    let d = c.self.inside in
    let s = state_of d.stored in
    let hash = g.H.Hash32.digest_of d.h in
    let index_of = g.X.IndexSource.index_of d.source in
    let registry = latest_registry (history_of s) in
    let batch = indexed c.args.ops.items c.args.supplied.now in
    subst (λ (f : List ℕ → List ℕ). Whole hash f s) (sym (rw (← c.self.view_is) at (rw c.deref-2.ensures.value at c.in-Ok.ensures.indices)))
    (whole_agree hash index_of (index_in index_of registry batch) s (given_agree registry index_of batch) c.self.invariant.whole)

pub fault_or_other-requires : goal.fault_or_other-requires
fault_or_other-requires g c = rw (← c.self.view_is) (whole_in g (goal.at.fault_or_other-requires g c).In-Ok)

pub returns-in-Some : goal.returns-in-Some
returns-in-Some g c =
    let index_of = g.X.IndexSource.index_of c.args.self.now.index in
    let registry = latest_registry (history_of c.args.self.now.state) in
    let ops = c.args.ops.items in
    let indices = c.args.supplied.now in
    let within = within_is index_of registry ops indices c.requires (rw c.deref.ensures.value at c.in_default.ensures.few) in
    record {
      update = tt;
      installable = tt;
      indices = tt;
      accepted = tt;
      within = tt;
      faultless = tt;
      refused = other_fault index_of registry ops indices c.requires c.in-Some.position c.fault_or_other.result
          within (other_is (rw c.deref-2.ensures.value at c.in-Ok.ensures.other) c.in-Some.is) (rw (rw c.deref-2.ensures.value at c.in-Ok.ensures.indices) at c.fault_or_other.ensures);
    }

pub update_on-requires-clause-whole : goal.update_on-requires-clause-whole
update_on-requires-clause-whole g c κs within = whole_in g (goal.at.update_on-requires-clause-whole g c).In-Ok

-- the update is one with these indices
made_in : (g : given.Over) (c : In-Ok-update_on g) → (let d = c.self.inside in let s = state_of d.stored in let index_of = g.X.IndexSource.index_of d.source in
    IsUpdateBy (g.H.Hash32.digest_of d.h) (index_in index_of (latest_registry (history_of s)) (indexed c.args.ops.items c.args.supplied.now))
    s (option_map (λ (n : Nonce). n.0) c.args.nonce)
    c.args.ops.items c.in-Ok-update_on.update)
made_in g c =
    let d = c.self.inside in
    let s = state_of d.stored in
    subst (λ (f : List ℕ → List ℕ). IsUpdateBy (g.H.Hash32.digest_of d.h) f s (option_map (λ (n : Nonce). n.0) c.args.nonce) c.args.ops.items c.in-Ok-update_on.update)
    (rw (← c.self.view_is) at (rw c.deref-2.ensures.value at c.in-Ok.ensures.indices)) c.in-Ok-update_on.ensures.update

pub returns-in-Ok-update_on : goal.returns-in-Ok-update_on
returns-in-Ok-update_on g c =
    let d = c.self.inside in
    let s = state_of d.stored in
    let index_of = g.X.IndexSource.index_of d.source in
    let registry = latest_registry (history_of s) in
    let batch = indexed c.args.ops.items c.args.supplied.now in
    let made = made_in g (goal.at.returns-in-Ok-update_on g c).In-Ok-update_on in
    let other = other_is (rw c.deref-2.ensures.value at c.in-Ok.ensures.other) c.in_default-other.is in
    let faultless = rw (rw (← c.self.view_is) at (rw c.deref-2.ensures.value at c.in-Ok.ensures.indices)) at c.in-Ok-update_on.ensures.faultless in
    let few = rw c.deref.ensures.value at c.in_default.ensures.few in
    record {
      update = rw (← c.self.view_is) made;
      installable = rw (← c.self.view_is) (record {
        agree = λ fresh. given_agree registry index_of batch;
        update = prepared_of (g.H.Hash32.digest_of d.h) (index_in index_of registry batch) s c.in-Ok-update_on.update made.update;
        stored = made.stored;
      });
      indices = rw (← c.self.view_is)
          (stored_is (index_in index_of registry batch) c.in-Ok-update_on.update.records.items (operations c.args.ops.items) made.binds made.stored);
      accepted = rw (← c.self.view_is) (record {
        worker_count = c.args.build.now.parallelism.within.0;
        shallow = c.args.build.now.parallelism.within.1;
        few = rw (length-map c.args.ops.items operation_of) few;
        faultless = faultless;
      });
      within = within_is (g.X.IndexSource.index_of c.args.self.now.index) (latest_registry (history_of c.args.self.now.state))
          c.args.ops.items c.args.supplied.now c.requires few;
      faultless = rw (← c.self.view_is)
          (no_fault index_of registry c.args.ops.items c.args.supplied.now c.requires (rw (← c.self.view_is) at other) faultless);
      refused = tt;
    }

pub returns : goal.returns
returns g c =
    let d = c.self.inside in
    let index_of = g.X.IndexSource.index_of c.args.self.now.index in
    let registry = latest_registry (history_of (state_of d.stored)) in
    let registry' = latest_registry (history_of c.args.self.now.state) in
    let same : registry ≡ registry' = ap (λ (v : View _ _). latest_registry (history_of v.state)) c.self.view_is in
    let ops = c.args.ops.items in
    let indices = c.args.supplied.now in
    let fault = c.in-Err-update_on.fault in
    let other = other_is (rw c.deref-2.ensures.value at c.in-Ok.ensures.other) c.in_default-other.is in
    let within = within_is index_of registry' ops indices c.requires (rw c.deref.ensures.value at c.in_default.ensures.few) in
    record {
      update = tt;
      installable = tt;
      indices = tt;
      accepted = tt;
      within = tt;
      faultless = tt;
      refused = judged_fault index_of registry' ops indices c.requires fault within other
          (subst (λ (r : Registry). IsJudgedFault (index_in index_of registry' (indexed ops indices)) r (operations ops) fault) same
          (subst (λ (f : List ℕ → List ℕ). IsJudgedFault f registry (operations ops) fault) (rw c.deref-2.ensures.value at c.in-Ok.ensures.indices) c.in-Err-update_on.ensures.fault));
    }
