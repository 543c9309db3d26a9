use Rattle.std.proofs.Common.{◌≡◌, ◌≤◌, List, [], ap, arith, get_or, length, subst, sym, take, ◌∙◌}
use Rattle.coniks_proof.specs.declared.values.Index.{Index}
use Rattle.coniks_directory.proofs.Words.{Op, operation_of, take_all}
use Rattle.coniks_directory.specs.Supplied.{Supplied, supplied_index}
use Rattle.coniks_directory.specs.SuppliedBatches.{Indexed, IsFresh, indexed, named_in}
use Rattle.coniks_directory.proofs.SuppliedBatchLemmas.{fresh_index, indexed_here, indexed_length, named_next, none_fresh}
use Rattle.coniks_directory.proofs.supplied_bindings.fresh_indices.Goals as goal

pub loop-place-init : goal.loop-place-init
loop-place-init c = λ hash bound s. rw c.new-fresh.ensures (none_fresh bound)

pub loop-place-preserved : goal.loop-place-preserved
loop-place-preserved c = λ hash bound s.
    let ops = c.args.bindings.now in
    let indices = c.args.indices.now in
    let i = c.loop-place.place in
    let op = c.index-bindings-place.result in
    let missing : Index = record { 0 = [] } in
    let index = get_or indices i missing in
    let x : Indexed = record { op = operation_of op; index = index.0 } in
    let at = indexed_here ops indices i op missing c.requires c.loop-place-test.true c.index-bindings-place.is in
    let named : c.as_slice-name.result.now ≡ op.name = c.as_slice-name.ensures ∙ ap (λ (o : Op). o.name) (sym c.index-bindings-place.is) in
    let before = named_in (take i (indexed ops indices)) in
    let fresh = c.in_ok-add_fresh.ensures hash bound before s (c.loop-place.invariant hash bound s) in
    subst (λ (xs : List Supplied). IsFresh bound c.add_fresh.new.fresh xs) (sym (named_next (indexed ops indices) i x at)) (rw named at fresh)

pub returns : goal.returns
returns c = λ hash bound s.
    let ops = c.args.bindings.now in
    let indices = c.args.indices.now in
    let long = indexed_length ops indices c.requires in
    let past : length (indexed ops indices) ≤ c.loop-place.place = (let end = c.loop-place-test.false in omega (arith, long, end)) in
    let all = rw (take_all c.loop-place.place (indexed ops indices) past) at c.loop-place.invariant hash bound s in
    fresh_index bound (supplied_index c.args.source.now) c.loop-place.fresh (indexed ops indices) all
