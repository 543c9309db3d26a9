use Rattle.std.proofs.Common.{inr, sym, subst}
use Rattle.coniks_chain.specs.declared.entry.Entry.{Entry}
use Rattle.coniks_client.specs.Lookups.{body_part}
use Rattle.coniks_client.specs.Replies.{proof_part, vrf_part}
use Rattle.coniks_evidence.specs.Records.{IsAccepted, IsUnaccepted}
use Rattle.coniks_evidence.proofs.RecordLemmas.{not_both, parts_answer, parts_same, refused_parts, shown_whole}
use Rattle.coniks_evidence.proofs.replies.found_at.Goals as goal

pub returns-in-Err-clause-exact : goal.returns-in-Err-clause-exact
returns-in-Err-clause-exact g c = λ answer shown. not_both c.args.bytes.now c.in-Err.fault
    (shown_whole (g.H.Hash32.digest_of c.args.by.now.hash.now) (g.S.IndexScheme.index_of c.args.by.now.indices.now) c.args.stored.now c.args.epoch c.args.name.now c.args.bytes.now answer shown) c.in-Err.ensures.err

pub returns-in_default-clause-exact : goal.returns-in_default-clause-exact
returns-in_default-clause-exact g c = λ answer shown. let there = shown.stored_there in c.in_default.ensures.none there.0 there.1 there.2 there.3

pub returns-in-Ok-saved_under-clause-exact : goal.returns-in-Ok-saved_under-clause-exact
returns-in-Ok-saved_under-clause-exact g c = λ answer shown.
    let hash = g.H.Hash32.digest_of c.args.by.now.hash.now in
    let scheme = g.S.IndexScheme.index_of c.args.by.now.indices.now in
    let accepted = subst (λ (e : Entry). IsAccepted hash scheme e c.args.name.now c.args.bytes.now answer) (sym c.entry.ensures)
    (shown.accepted c.in-Some.found.place c.in-Some.found.mine c.in-Some.ensures.some.0 c.in-Some.ensures.some.1) in
    c.in-Ok-saved_under.ensures.exact answer
    (parts_same hash scheme c.entry.result c.args.name.now c.args.bytes.now c.in-Ok.reply.entry.now c.in-Ok.reply.vrf.now c.in-Ok.reply.proof.now
    c.in-Ok.ensures.entry c.in-Ok.ensures.vrf c.in-Ok.ensures.proof answer accepted)
    (parts_answer hash scheme c.entry.result c.args.name.now c.args.bytes.now c.in-Ok.reply.entry.now c.in-Ok.reply.vrf.now c.in-Ok.reply.proof.now
    c.in-Ok.ensures.entry c.in-Ok.ensures.vrf c.in-Ok.ensures.proof answer accepted)

pub returns-in-Err-saved_under-clause-exact : goal.returns-in-Err-saved_under-clause-exact
returns-in-Err-saved_under-clause-exact g c = λ answer shown.
    let hash = g.H.Hash32.digest_of c.args.by.now.hash.now in
    let scheme = g.S.IndexScheme.index_of c.args.by.now.indices.now in
    let accepted = subst (λ (e : Entry). IsAccepted hash scheme e c.args.name.now c.args.bytes.now answer) (sym c.entry.ensures)
    (shown.accepted c.in-Some.found.place c.in-Some.found.mine c.in-Some.ensures.some.0 c.in-Some.ensures.some.1) in
    c.in-Err-saved_under.ensures.exact answer
    (parts_same hash scheme c.entry.result c.args.name.now c.args.bytes.now c.in-Ok.reply.entry.now c.in-Ok.reply.vrf.now c.in-Ok.reply.proof.now
    c.in-Ok.ensures.entry c.in-Ok.ensures.vrf c.in-Ok.ensures.proof answer accepted)
    (parts_answer hash scheme c.entry.result c.args.name.now c.args.bytes.now c.in-Ok.reply.entry.now c.in-Ok.reply.vrf.now c.in-Ok.reply.proof.now
    c.in-Ok.ensures.entry c.in-Ok.ensures.vrf c.in-Ok.ensures.proof answer accepted)

pub returns-in-Err-saved_under-clause-err : goal.returns-in-Err-saved_under-clause-err
returns-in-Err-saved_under-clause-err g c =
    let hash = g.H.Hash32.digest_of c.args.by.now.hash.now in
    let scheme = g.S.IndexScheme.index_of c.args.by.now.indices.now in
    let bytes = c.args.bytes.now in
    let refused = refused_parts hash scheme c.entry.result c.args.name.now bytes c.in-Ok.reply.entry.now c.in-Ok.reply.vrf.now c.in-Ok.reply.proof.now
    c.in-Ok.ensures.entry c.in-Ok.ensures.vrf c.in-Ok.ensures.proof c.in-Err-saved_under.fault c.in-Err-saved_under.ensures.err in
    inr (inr (record {
      whole = c.in-Ok.ensures.ok;
      place = c.in-Some.found.place;
      mine = c.in-Some.found.mine;
      there = c.in-Some.ensures.some.0;
      epoch_is = c.in-Some.ensures.some.1;
      refused = subst (λ (e : Entry). IsUnaccepted hash scheme e c.args.name.now (body_part bytes) (vrf_part bytes) (proof_part bytes) c.in-Err-saved_under.fault) c.entry.ensures refused;
    }))
