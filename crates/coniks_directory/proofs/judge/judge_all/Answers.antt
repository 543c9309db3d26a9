use Rattle.std.proofs.Common.{◌≡◌, ◌≤◌, ◌++◌, None, Ok, Some, arith, length, map, option_map, ap, rules, slice_get, sym, take, ◌∙◌}
use Rattle.std.proofs.lemmas.Iterator.Adapters.{YieldsList-from_vec}
use Rattle.std.proofs.lemmas.Iterator.Consumers.{YieldsList-end, YieldsList-from_enumerate, YieldsList-turn}
use Rattle.std.proofs.lemmas.List.{length_push}
use Rattle.std.proofs.lemmas.List.FromFn.{length-enumerate_from}
use Rattle.coniks_directory.proofs.Words.{append-nil, bound_by, fault_is, length-map, operation_of, operations, take_all}
use Rattle.coniks_directory.proofs.JudgeLemmas.{bound-next, judged-all, judged-first, judged-next, op_next}
use Rattle.coniks_directory.proofs.PendingLemmas.{rolled_back, same_pending}
use Rattle.coniks_directory.proofs.judge.judge_all.Goals.{In-Some, In-None}
use Rattle.coniks_directory.proofs.judge.judge_all.Given as given
use Rattle.coniks_directory.proofs.judge.judge_all.Goals as goal

pub loop-position-init : goal.loop-position-init
loop-position-init g c = record {
  pending = λ hash bound s. rw (append-nil bound) s;
  rest = λ hash nonce registry bound shown s. judged-first (g.X.IndexSource.index_of c.args.source.now) registry bound (operations c.args.ops.items);
}

-- the next operation, whose position is the number of those before
next_in : (g : given.Over) (c : In-Some g) → (let n = length c.loop-position.yielded in
    (c.in-Some.position ≡ n) × (slice_get (operations c.args.ops.items) n ≡ Some (operation_of c.in-Some.op)))
next_in g c =
    let l = c.loop-position in
    let ops = c.args.ops.items in
    let all = YieldsList-from_enumerate {v = λ y. y} {s = c.into_iter-position-iterator.result} (YieldsList-from_vec ops (search rules) (search rules)) (search rules) in
    let turn = YieldsList-turn all l.yielded l.position-iterator l.yielded_by c.next.result c.next.new.self (c.in-Some.position, c.in-Some.op) c.in-Some.is c.next.ensures.steps in
    op_next ops (length l.yielded) (c.in-Some.position, c.in-Some.op) turn.0 turn.1

pub loop-position-preserved : goal.loop-position-preserved
loop-position-preserved g c =
    let l = c.loop-position in
    let n = length l.yielded in
    let index_of = g.X.IndexSource.index_of c.args.source.now in
    let op = c.in-Some.op in
    let ops = operations c.args.ops.items in
    let at = (next_in g (goal.at.loop-position-preserved g c).In-Some).1 in
    let is : c.judge_one.result ≡ Ok None = c.in-Ok-None.is ∙ ap Ok c.in-Ok-None.field-0-is in
    rw (length_push l.yielded (c.in-Some.position, op)) (record {
      pending = λ hash bound s. rw (← bound-next bound ops n (operation_of op) at)
          (c.judge_one.ensures.pending is hash (bound ++ map bound_by (take n ops)) (l.invariant.pending hash bound s));
      rest = λ hash nonce registry bound shown s.
          judged-next index_of registry bound ops n (operation_of op) None at (l.invariant.rest hash nonce registry bound shown s)
          (sym (c.in-Ok-None.ensures.fault hash nonce registry (bound ++ map bound_by (take n ops)) shown (l.invariant.pending hash bound s))
          ∙ ap (option_map fault_is) c.in-Ok-None.field-0-is);
    })

pub returns-in-Ok-Some-clause-fault : goal.returns-in-Ok-Some-clause-fault
returns-in-Ok-Some-clause-fault g c = λ hash nonce registry bound shown s.
    let l = c.loop-position in
    let n = length l.yielded in
    let op = c.in-Some.op in
    let ops = operations c.args.ops.items in
    let next = next_in g (goal.at.returns-in-Ok-Some-clause-fault g c).In-Some in
    rw next.0
    (judged-next (g.X.IndexSource.index_of c.args.source.now) registry bound ops n (operation_of op) (Some (fault_is c.in-Ok-Some.fault)) next.1
    (l.invariant.rest hash nonce registry bound shown s)
    (sym (c.in-Ok-Some.ensures.fault hash nonce registry (bound ++ map bound_by (take n ops)) shown (l.invariant.pending hash bound s))
    ∙ ap (option_map fault_is) c.in-Ok-Some.field-0-is))

-- after the last operation
past_in : (g : given.Over) (c : In-None g) → length (operations c.args.ops.items) ≤ length c.loop-position.yielded
past_in g c =
    let l = c.loop-position in
    let ops = c.args.ops.items in
    let all = YieldsList-from_enumerate {v = λ y. y} {s = c.into_iter-position-iterator.result} (YieldsList-from_vec ops (search rules) (search rules)) (search rules) in
    let end = YieldsList-end all l.yielded l.position-iterator l.yielded_by c.next.result c.next.new.self c.in-None.is c.next.ensures.steps in
    omega (arith, end.1, length-enumerate_from 0 ops, length-map ops operation_of)

pub returns-clause-pending : goal.returns-clause-pending
returns-clause-pending g c = λ hash bound s.
    let l = c.loop-position in
    let ops = operations c.args.ops.items in
    rw (take_all (length l.yielded) ops (past_in g (goal.at.returns-clause-pending g c).In-None)) at l.invariant.pending hash bound s

pub returns-clause-faultless : goal.returns-clause-faultless
returns-clause-faultless g c = λ hash nonce registry bound shown s.
    let l = c.loop-position in
    let ops = operations c.args.ops.items in
    judged-all (g.X.IndexSource.index_of c.args.source.now) registry bound ops (length l.yielded) (past_in g (goal.at.returns-clause-faultless g c).In-None)
    (l.invariant.rest hash nonce registry bound shown s)

pub returns-in-Ok-Some-clause-retained : goal.returns-in-Ok-Some-clause-retained
returns-in-Ok-Some-clause-retained g c = λ hash bound s.
    let l = c.loop-position in
    let index_of = g.X.IndexSource.index_of c.args.source.now in
    let more = map bound_by (take (length l.yielded) (operations c.args.ops.items)) in
    let same = c.judge_one.ensures.retained (λ none. let is = c.in-Ok-Some.is ∙ ap Ok c.in-Ok-Some.field-0-is in let never = sym is ∙ none in cc) in
    let here = same_pending hash index_of (bound ++ more) _ _ _ _ same.records same.numbers (l.invariant.pending hash bound s) in
    rolled_back hash index_of bound more _ _ _ _ _ _ _ s here c.count-earlier.ensures c.truncate.ensures.records (c.truncate.ensures.pending hash index_of (bound ++ more) here)

pub returns-in-Err-clause-retained : goal.returns-in-Err-clause-retained
returns-in-Err-clause-retained g c = λ hash bound s.
    let l = c.loop-position in
    let index_of = g.X.IndexSource.index_of c.args.source.now in
    let more = map bound_by (take (length l.yielded) (operations c.args.ops.items)) in
    let same = c.judge_one.ensures.retained (λ none. let is = c.in-Err.is in let never = sym is ∙ none in cc) in
    let here = same_pending hash index_of (bound ++ more) _ _ _ _ same.records same.numbers (l.invariant.pending hash bound s) in
    rolled_back hash index_of bound more _ _ _ _ _ _ _ s here c.count-earlier.ensures c.truncate-in-Err.ensures.records
    (c.truncate-in-Err.ensures.pending hash index_of (bound ++ more) here)
