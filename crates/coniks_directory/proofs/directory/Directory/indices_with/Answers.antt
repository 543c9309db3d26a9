use Rattle.std.proofs.Common.{◌+◌, ◌≡◌, List, [], ap, arith, get_or, length, refl, subst, sym, take, ◌≤◌, ◌∙◌}
use Rattle.std.specs.Bool.{then_some}
use Rattle.std.specs.Option.{option_or}
use Rattle.coniks_directory.proofs.Words.{Op, history_of, latest_registry, operation_of, state_of, take_all}
use Rattle.coniks_proof.specs.declared.values.Index.{Index}
use Rattle.coniks_directory.specs.Supplied.{Supplied}
use Rattle.coniks_directory.specs.SuppliedBatches.{Indexed, IsFresh, has_other, indexed, named_in}
use Rattle.coniks_directory.proofs.SuppliedBatchLemmas.{IsFirstOther, fresh_index, indexed_here, indexed_length, named_next, none_fresh, other-all, other-next}
use Rattle.coniks_directory.proofs.directory.Directory.indices_with.Goals as goal

pub loop-place-init : goal.loop-place-init
loop-place-init g c = record { fresh = rw c.new-fresh.ensures (none_fresh (latest_registry (history_of c.args.self.now.state))); other = refl }

pub loop-place-preserved : goal.loop-place-preserved
loop-place-preserved g c =
    let index_of = g.X.IndexSource.index_of c.args.self.now.index in
    let registry = latest_registry (history_of c.args.self.now.state) in
    let ops = c.args.ops.now in
    let indices = c.args.indices.now in
    let i = c.loop-place.place in
    let op = c.index-ops-place.result in
    let missing : Index = record { 0 = [] } in
    let index = get_or indices i missing in
    let x : Indexed = record { op = operation_of op; index = index.0 } in
    let at = indexed_here ops indices i op missing c.requires c.loop-place-test.true c.index-ops-place.is in
    let named : c.as_slice.result.now ≡ op.name = c.as_slice.ensures ∙ ap (λ (o : Op). o.name) (sym c.index-ops-place.is) in
    let before = named_in (take i (indexed ops indices)) in
    let fresh = c.in_ok-is_other.ensures.fresh before c.loop-place.invariant.fresh in
    let other = c.loop-place.other in
    let is : c.in_ok-is_other.is_other ≡ has_other index_of registry x = rw named at c.in_ok-is_other.ensures.other in
    let next : c.or-other.result ≡ option_or other (then_some (has_other index_of registry x) i) = c.or-other.ensures ∙ ap (option_or other) (c.then_some.ensures ∙ ap (λ b. then_some b i) is) in
    record {
      fresh = subst (λ (xs : List Supplied). IsFresh registry c.add_fresh.new.fresh xs) (sym (named_next (indexed ops indices) i x at)) (rw named at fresh);
      other = subst (λ o. IsFirstOther index_of registry (indexed ops indices) (i + 1) o) (sym next) (other-next index_of registry (indexed ops indices) i x other at c.loop-place.invariant.other);
    }

pub returns-clause-indices : goal.returns-clause-indices
returns-clause-indices g c =
    let d = c.self.inside in
    let index_of = g.X.IndexSource.index_of d.source in
    let registry = latest_registry (history_of (state_of d.stored)) in
    let ops = c.args.ops.now in
    let indices = c.args.indices.now in
    let long = indexed_length ops indices c.requires in
    let past : length (indexed ops indices) ≤ c.loop-place.place = (let end = c.loop-place-test.false in omega (arith, long, end)) in
    let all = rw (take_all c.loop-place.place (indexed ops indices) past) at c.loop-place.invariant.fresh in
    rw (← c.self.view_is) (fresh_index registry index_of c.loop-place.fresh (indexed ops indices) (rw (← c.self.view_is) at all))

pub returns-clause-other : goal.returns-clause-other
returns-clause-other g c =
    let index_of = g.X.IndexSource.index_of c.args.self.now.index in
    let registry = latest_registry (history_of c.args.self.now.state) in
    let ops = c.args.ops.now in
    let indices = c.args.indices.now in
    let long = indexed_length ops indices c.requires in
    let past : length (indexed ops indices) ≤ c.loop-place.place = (let end = c.loop-place-test.false in omega (arith, long, end)) in
    other-all index_of registry (indexed ops indices) c.loop-place.place c.loop-place.other past c.loop-place.invariant.other
