use Rattle.std.proofs.Common.{◌≡◌, List, ℕ, Option, sym, subst, ◌∙◌}
use Rattle.coniks_proof.specs.Proofs.{stated}
use Rattle.coniks_evidence.specs.Findings.{FindsOf}
use Rattle.coniks_evidence.specs.Records.{expected_by}
use Rattle.coniks_evidence.proofs.FindingLemmas.{found_convicts, found_in, found_true}
use Rattle.coniks_evidence.proofs.examining.compare_replies.Goals as goal

pub returns-in-Err-clause-convicts : goal.returns-in-Err-clause-convicts
returns-in-Err-clause-convicts g c = λ answer one hers his other. c.in-Err.ensures.exact (expected_by c.args.owner.now c.args.epoch) hers

pub returns-in-Err-found_at-clause-convicts : goal.returns-in-Err-found_at-clause-convicts
returns-in-Err-found_at-clause-convicts g c = λ answer one hers his other. c.in-Err-found_at.ensures.exact answer his

pub returns-clause-finds : goal.returns-clause-finds
returns-clause-finds g c =
    let hash = g.H.Hash32.digest_of c.args.by.now.hash.now in
    let scheme = g.S.IndexScheme.index_of c.args.by.now.indices.now in
    let a = c.in-Ok.found in
    let b = c.in-Ok-found_at.found in
    found_in hash scheme c.args.epoch c.args.owner.now c.args.reply.now c.args.chains.now.owner.now c.args.chains.now.contact.now a b c.compare_found.result c.in-Ok.ensures.ok c.in-Ok-found_at.ensures.ok
    (subst (λ (want : Option (List ℕ)). FindsOf hash want a b c.compare_found.result) c.settle-stage.ensures.key c.compare_found.ensures.finds)

pub returns-clause-true_of : goal.returns-clause-true_of
returns-clause-true_of g c =
    let hash = g.H.Hash32.digest_of c.args.by.now.hash.now in
    let scheme = g.S.IndexScheme.index_of c.args.by.now.indices.now in
    found_true hash scheme c.args.epoch c.args.owner.now.watch.name.now c.args.chains.now.owner.now c.args.chains.now.contact.now c.args.owner.now.reply.now c.args.reply.now _ c.in-Ok.found c.in-Ok-found_at.found
    c.in-Ok.ensures.ok c.in-Ok-found_at.ensures.ok c.compare_found.result c.compare_found.ensures.finds c.compare_found.ensures.collides

pub returns-clause-convicts : goal.returns-clause-convicts
returns-clause-convicts g c = λ answer one hers his other.
    let hash = g.H.Hash32.digest_of c.args.by.now.hash.now in
    let scheme = g.S.IndexScheme.index_of c.args.by.now.indices.now in
    let a = c.in-Ok.found in
    let b = c.in-Ok-found_at.found in
    let of_a = c.in-Ok.ensures.ok in
    let of_b = c.in-Ok-found_at.ensures.ok in
    let want = expected_by c.args.owner.now c.args.epoch in
    let shows : stated a.saved.answer ≡ want = c.in-Ok.ensures.exact want hers in
    let his_answer : stated b.saved.answer ≡ answer = c.in-Ok-found_at.ensures.exact answer his in
    found_convicts hash scheme c.args.epoch c.args.owner.now.watch.name.now c.args.chains.now.owner.now c.args.chains.now.contact.now c.args.owner.now.reply.now c.args.reply.now want a b
    of_a of_b c.compare_found.result (one of_a.place of_b.place a.mine b.mine of_a.there of_b.there of_a.epoch_is of_b.epoch_is) shows
    (λ same. other (sym his_answer ∙ same))
    (subst (λ (w : Option (List ℕ)). FindsOf hash w a b c.compare_found.result) c.settle-stage.ensures.key c.compare_found.ensures.finds)
    c.compare_found.ensures.collides
