use Rattle.std.proofs.Common.{ℕ, List, subst}
use Rattle.coniks_client.specs.Feeding.{IsRefusedFeed}
use Rattle.coniks_client.specs.Steps.{IsAccepted}
use Rattle.coniks_client.specs.declared.steps.Accepted.{Accepted}
use Rattle.coniks_client.specs.declared.steps.Accepted.TheVariants.{Next, Again}
use Rattle.coniks_client.proofs.AcceptLemmas.{accepted-backed, accepted-chain, accepted-own, accepted-watched, is-again, is-next}
use Rattle.coniks_client.proofs.FeedingLemmas.{not_next}
use Rattle.coniks_client.proofs.steps.feed.Goals as goal

pub returns-in-Some : goal.returns-in-Some
returns-in-Some g c =
    let hash = g.H.Hash32.digest_of c.args.h in
    let verdict = g.V.Verify.verdict_of c.args.verify.now in
    let policy = c.args.fed.now.policy.now in
    let stored = c.args.stored.now in
    let watch = c.args.watch.now in
    let bytes = c.in-Ok.whole.now in
    let time = c.args.fed.now.time in
    let mine : Accepted = Again c.again_stored.result in
    let is = is-again hash verdict policy stored watch bytes time c.in-Ok-verified.entry c.in-Some.latest c.again_stored.result
    c.in-Ok-verified.ensures.from c.in-Ok-verified.ensures.ok c.in-Some.ensures.some c.again_stored.ensures in
    record {
      ok = subst (λ (b : List ℕ). IsAccepted hash verdict policy stored watch b time mine) c.in-Ok.ensures.1.same is;
      err = tt;
      own = accepted-own hash verdict policy stored watch bytes time mine is;
      chain = accepted-chain hash verdict policy stored watch bytes time mine is;
      backed = accepted-backed hash verdict policy stored watch bytes time mine is;
      watched = accepted-watched hash verdict policy stored watch bytes time mine is;
    }

pub returns-in-Some-fault_after-clause-err : goal.returns-in-Some-fault_after-clause-err
returns-in-Some-fault_after-clause-err g c =
    let hash = g.H.Hash32.digest_of c.args.h in
    let verdict = g.V.Verify.verdict_of c.args.verify.now in
    subst (λ (b : List ℕ). IsRefusedFeed hash verdict c.args.fed.now.policy.now c.args.stored.now b c.in-Some-fault_after.fault) c.in-Ok.ensures.1.same
    (not_next hash verdict c.args.fed.now.policy.now c.args.stored.now c.in-Ok.whole.now c.in-Ok-verified.entry c.in-Some-fault_after.fault
    c.in-Ok-verified.ensures.from c.in-Ok-verified.ensures.ok c.in-None.ensures.none c.in-Some-fault_after.ensures.some)

pub returns-in-None-fault_after : goal.returns-in-None-fault_after
returns-in-None-fault_after g c =
    let hash = g.H.Hash32.digest_of c.args.h in
    let verdict = g.V.Verify.verdict_of c.args.verify.now in
    let policy = c.args.fed.now.policy.now in
    let stored = c.args.stored.now in
    let watch = c.args.watch.now in
    let bytes = c.in-Ok.whole.now in
    let time = c.args.fed.now.time in
    let mine : Accepted = Next c.new_stored.result in
    let is = is-next hash verdict policy stored watch bytes time c.in-Ok-verified.entry c.new_stored.result
    c.in-Ok-verified.ensures.from c.in-Ok-verified.ensures.ok c.in-None-fault_after.ensures.none c.new_stored.ensures in
    record {
      ok = subst (λ (b : List ℕ). IsAccepted hash verdict policy stored watch b time mine) c.in-Ok.ensures.1.same is;
      err = tt;
      own = accepted-own hash verdict policy stored watch bytes time mine is;
      chain = accepted-chain hash verdict policy stored watch bytes time mine is;
      backed = accepted-backed hash verdict policy stored watch bytes time mine is;
      watched = accepted-watched hash verdict policy stored watch bytes time mine is;
    }
