use Rattle.std.proofs.Common.{◌≡◌, [], Err, None, map, rules, ◌∙◌}
use Rattle.coniks_directory.proofs.Words.{IsJudgedFaultAfter, fault_from, operations, registered_of}
use Rattle.coniks_directory.specs.Restored.{registrations}
use Rattle.coniks_directory.proofs.PendingLemmas.{by_records}
use Rattle.coniks_directory.proofs.RestoreLemmas.{added_faultless, added_ops, at_view, bound_registrations, view_is, view_more}
use Rattle.coniks_directory.proofs.directory.restoring.Restoring.add.Goals as goal

pub returns-in_err-judge_copies-clause-refused : goal.returns-in_err-judge_copies-clause-refused
returns-in_err-judge_copies-clause-refused g c =
    let r = c.self.inside in
    let bound = map registered_of r.pending.records.items in
    let is : c.from_residual.result ≡ Err c.in_err-judge_copies.field-0.0 = search rules in
    let fault = c.in_err-judge_copies.ensures.fault (g.H.Hash32.digest_of r.h) bound c.self.invariant.pending in
    rw is (at_view (λ x bs. IsJudgedFaultAfter (g.X.IndexSource.index_of x) [] bs (operations c.args.bindings.now) c.in_err-judge_copies.field-0.0) _ _ bound
    c.self.view_is (bound_registrations bound) fault)

pub invariant_of-self-2 : goal.invariant_of-self-2
invariant_of-self-2 g c =
    let r = c.self.inside in
    let hash = g.H.Hash32.digest_of r.h in
    let index_of = g.X.IndexSource.index_of r.source in
    let old = r.pending.records.items in
    let new = c.judge_copies.new.pending in
    let i = c.self.invariant in
    let s = c.in_ok-judge_copies.ensures.pending hash (map registered_of old) i.pending in
    record {
      formed = i.formed;
      opened = i.opened;
      pending = by_records hash index_of _ _ _ s;
      faultless = added_faultless hash index_of old new.records.items new.numbers (operations c.args.bindings.now) s i.faultless
          (c.in_ok-judge_copies.ensures.faultless hash (map registered_of old) i.pending);
    }

pub returns-clause-added : goal.returns-clause-added
returns-clause-added g c =
    let r = c.self.inside in
    let hash = g.H.Hash32.digest_of r.h in
    let old = r.pending.records.items in
    let new = c.judge_copies.new.pending in
    let i = c.self.invariant in
    let ops = operations c.args.bindings.now in
    view_is r.h r.source r.entry (registrations new.records.items) _
    (added_ops hash (g.X.IndexSource.index_of r.source) old new.records.items new.numbers ops (c.in_ok-judge_copies.ensures.pending hash (map registered_of old) i.pending) i.faultless
    (c.in_ok-judge_copies.ensures.faultless hash (map registered_of old) i.pending))
    ∙ view_more _ _ ops c.self.view_is

pub returns-clause-accepted : goal.returns-clause-accepted
returns-clause-accepted g c =
    let r = c.self.inside in
    let bound = map registered_of r.pending.records.items in
    let ops = operations c.args.bindings.now in
    at_view (λ x bs. fault_from (g.X.IndexSource.index_of x) [] bs 0 ops ≡ None) _ _ bound
    c.self.view_is (bound_registrations bound) (c.in_ok-judge_copies.ensures.faultless (g.H.Hash32.digest_of r.h) bound c.self.invariant.pending)
