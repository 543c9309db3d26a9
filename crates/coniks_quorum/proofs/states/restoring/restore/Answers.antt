use Rattle.std.proofs.Common.{◌+◌, ◌∙◌, [], ap, get_or, sym}
use Rattle.coniks_client.specs.StoredEntry.{entry_in}
use Rattle.coniks_quorum.specs.Saved.{stored_from}
use Rattle.coniks_quorum.proofs.RestoreLemmas.{all-chain, all-verified, before_of, begun, first-bad, first-good, first_is, goes_on, later-bad, later-good, later-unverified, next_is}
use Rattle.coniks_quorum.proofs.states.restoring.restore.Goals as goal

pub returns-in_default-own_entry-clause-err : goal.returns-in_default-own_entry-clause-err
returns-in_default-own_entry-clause-err g c =
    first-bad (g.H.Hash32.digest_of c.args.h) (g.V.Verify.verdict_of c.args.verify.now) c.args.policy.now c.args.state.now.stored.now c.in-Some.first.now c.in-Some.later.now
    c.in-Some.ensures.cases.0 c.in_default-own_entry.ensures.none

pub loop-place-init : goal.loop-place-init
loop-place-init g c =
    let first = first_is (g.H.Hash32.digest_of c.args.h) (g.V.Verify.verdict_of c.args.verify.now) c.args.policy.now c.args.state.now.stored.now c.in-Some.first.now
    c.in-Some.later.now c.in-Some.ensures.cases.0 in
    record {
      good = first-good (g.H.Hash32.digest_of c.args.h) (g.V.Verify.verdict_of c.args.verify.now) c.args.policy.now c.args.state.now.stored.now c.in-Some.first.now
          c.in-Some.later.now c.in-Some.ensures.cases.0 c.in-Some-own_entry.ensures.some;
      before = begun (g.H.Hash32.digest_of c.args.h) c.args.h c.resume-auditor.result c.auditor_after-before.result c.in-Some-own_entry.entry
          (entry_in (stored_from (get_or c.args.state.now.stored.now 0 []))) c.resume-auditor.ensures c.auditor_after-before.ensures
          (c.in-Some-own_entry.ensures.from ∙ ap (λ bytes. entry_in (stored_from bytes)) (sym first));
    }

pub returns-in_default-own_entry-2-clause-err : goal.returns-in_default-own_entry-2-clause-err
returns-in_default-own_entry-2-clause-err g c =
    later-unverified (g.H.Hash32.digest_of c.args.h) (g.V.Verify.verdict_of c.args.verify.now) c.args.policy.now c.args.state.now.stored.now c.in-Some.first.now
    c.in-Some.later.now c.in-Some.ensures.cases.0 c.loop-place.place c.loop-place-test.true c.loop-place.invariant.good c.in_default-own_entry-2.ensures.none

pub returns-then-not-follows-clause-err : goal.returns-then-not-follows-clause-err
returns-then-not-follows-clause-err g c =
    later-bad (g.H.Hash32.digest_of c.args.h) (g.V.Verify.verdict_of c.args.verify.now) c.args.policy.now c.args.state.now.stored.now c.in-Some.first.now
    c.in-Some.later.now c.in-Some.ensures.cases.0 c.loop-place.place c.loop-place-test.true c.loop-place.invariant.good c.loop-place.auditor.1
    c.in-Some-own_entry-2.entry (before_of c.args.h c.loop-place.auditor _ c.loop-place.invariant.before) c.in-Some-own_entry-2.ensures.from c.follows.result c.follows.ensures.follows
    c.if-not-follows.true

pub loop-place-preserved : goal.loop-place-preserved
loop-place-preserved g c =
    let next = next_is (g.H.Hash32.digest_of c.args.h) (g.V.Verify.verdict_of c.args.verify.now) c.args.policy.now c.args.state.now.stored.now c.in-Some.first.now
    c.in-Some.later.now c.in-Some.ensures.cases.0 c.loop-place.place in
    let from = c.in-Some-own_entry-2.ensures.from in
    record {
      good = later-good (g.H.Hash32.digest_of c.args.h) (g.V.Verify.verdict_of c.args.verify.now) c.args.policy.now c.args.state.now.stored.now c.in-Some.first.now
          c.in-Some.later.now c.in-Some.ensures.cases.0 c.loop-place.place c.loop-place-test.true c.loop-place.invariant.good c.loop-place.auditor.1
          c.in-Some-own_entry-2.entry (before_of c.args.h c.loop-place.auditor _ c.loop-place.invariant.before) from c.follows.result c.follows.ensures.follows
          c.if-not-follows.false c.in-Some-own_entry-2.ensures.some;
      before = goes_on g.H.Hash32.digest_of c.args.h c.loop-place.auditor c.follows.new.auditor _ c.in-Some-own_entry-2.entry
          (entry_in (stored_from (get_or c.args.state.now.stored.now (c.loop-place.place + 1) []))) c.loop-place.invariant.before
          (c.follows.ensures.next c.if-not-follows.false) (from ∙ ap (λ bytes. entry_in (stored_from bytes)) (sym next));
    }

pub returns-clause-chain : goal.returns-clause-chain
returns-clause-chain g c =
    all-chain (g.H.Hash32.digest_of c.args.h) (g.V.Verify.verdict_of c.args.verify.now) c.args.policy.now c.args.state.now.stored.now c.in-Some.first.now
    c.in-Some.later.now c.in-Some.ensures.cases.0 c.loop-place.place c.loop-place-test.false c.loop-place.invariant.good

pub returns-clause-verified : goal.returns-clause-verified
returns-clause-verified g c =
    all-verified (g.H.Hash32.digest_of c.args.h) (g.V.Verify.verdict_of c.args.verify.now) c.args.policy.now c.args.state.now.stored.now c.in-Some.first.now
    c.in-Some.later.now c.in-Some.ensures.cases.0 c.loop-place.place c.loop-place-test.false c.loop-place.invariant.good
