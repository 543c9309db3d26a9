use Rattle.std.proofs.Common.{ℕ, ap, ◌∙◌}
use Rattle.coniks_proof.specs.Proofs.{stated}
use Rattle.coniks_client.specs.Steps.{given_changes, given_number}
use Rattle.coniks_client.proofs.StepLemmas.{marks-chain, shown_of}
use Rattle.coniks_client.proofs.WatchLemmas.{any-watched}
use Rattle.coniks_client.proofs.steps.look_up.Goals as goal

pub returns-clause-chain : goal.returns-clause-chain
returns-clause-chain g c = λ chain.
    marks-chain c.args.stored.now c.mark.new.stored c.in-Ok.found.place c.stored_at.result.mine c.stored_at.ensures.there
    (g.H.Hash32.digest_of c.args.by.now.hash.now) c.given_number-number.result c.mark.ensures chain

pub returns-clause-watched : goal.returns-clause-watched
returns-clause-watched g c =
    let hash = g.H.Hash32.digest_of c.args.by.now.hash.now in
    let scheme = g.S.IndexScheme.index_of c.args.by.now.indices.now in
    let was = c.stored_at.result.mine in
    let at = c.stored_at.ensures.there in
    let answer = stated c.in-Ok.found.answer in
    let shown = shown_of c.args.by.now.present hash (g.V.Verify.verdict_of c.args.by.now.signatures.now) scheme c.args.by.now.policy.now c.args.stored.now c.args.asking.now.name.now c.args.asking.now.reply.now c.args.asking.now.epoch
    c.in-Ok.found.place answer c.in-Ok.ensures.ok was at in
    any-watched hash scheme c.args.stored.now c.mark.new.stored c.in-Ok.found.place was at c.args.watch.now c.args.changes.now answer c.args.asking.now.name.now
    c.given_number-number.result c.give_changes.new.changes c.mark.ensures
    (◌∙◌ {b = given_number c.args.watch.now c.args.changes.now c.args.asking.now.name.now c.epoch-epoch.result answer} c.given_number-number.ensures
    (ap (λ (epoch : ℕ). given_number c.args.watch.now c.args.changes.now c.args.asking.now.name.now epoch answer) c.epoch-epoch.ensures))
    (◌∙◌ {b = given_changes c.args.watch.now c.args.changes.now c.args.asking.now.name.now c.epoch-epoch.result answer} c.give_changes.ensures
    (ap (λ (epoch : ℕ). given_changes c.args.watch.now c.args.changes.now c.args.asking.now.name.now epoch answer) c.epoch-epoch.ensures)) shown
