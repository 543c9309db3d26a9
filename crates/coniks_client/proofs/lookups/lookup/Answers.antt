use Rattle.std.proofs.Common.{ℕ, List, subst, inl, inr}
use Rattle.coniks_chain.specs.Entries.{entry_from}
use Rattle.coniks_client.specs.StoredEntry.{entry_in}
use Rattle.coniks_client.specs.Lookups.{AnswersNone, IsElsewhere, IsThere}
use Rattle.coniks_client.specs.Replies.{vrf_part}
use Rattle.coniks_client.proofs.lookups.lookup.Goals as goal

pub returns-in-Err-requested_body-clause-err : goal.returns-in-Err-requested_body-clause-err
returns-in-Err-requested_body-clause-err g c = inr (inl (
  c.in-Ok.ensures.ok,
  subst (λ (bytes : List ℕ). IsElsewhere c.args.by.now.present c.args.stored.now c.args.asking.now.epoch (entry_from bytes).body c.in-Err-requested_body.fault) c.in-Ok.ensures.entry c.in-Err-requested_body.ensures.err,
))

pub returns-in-Err-answer_of-clause-err : goal.returns-in-Err-answer_of-clause-err
returns-in-Err-answer_of-clause-err g c =
    let hash = g.H.Hash32.digest_of c.args.by.now.hash.now in
    let scheme = g.S.IndexScheme.index_of c.args.by.now.indices.now in
    let entry = entry_in c.in-Ok-requested_body.found.mine in
    let by_vrf = subst (λ (vrf : List ℕ). AnswersNone hash scheme entry c.args.asking.now.name.now vrf c.in-Ok.reply.proof.now c.in-Err-answer_of.fault)
    c.in-Ok.ensures.vrf c.in-Err-answer_of.ensures.err in
    inr (inr (
      c.in-Ok.ensures.ok,
      (
        c.in-Ok-requested_body.found.place,
        c.in-Ok-requested_body.found.mine,
        subst (λ (bytes : List ℕ). IsThere c.args.by.now.present c.args.stored.now c.args.asking.now.epoch (entry_from bytes).body c.in-Ok-requested_body.found.place c.in-Ok-requested_body.found.mine)
            c.in-Ok.ensures.entry c.in-Ok-requested_body.ensures.ok,
        subst (λ (proof : List ℕ). AnswersNone hash scheme entry c.args.asking.now.name.now (vrf_part c.args.asking.now.reply.now) proof c.in-Err-answer_of.fault) c.in-Ok.ensures.proof by_vrf,
      ),
    ))
