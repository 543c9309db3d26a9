use Rattle.std.proofs.Common.{◌==◌}
use Rattle.coniks_proof.specs.Sha256.{sha256}
use Rattle.coniks_chain.specs.Guard.{raw_body}
use Rattle.coniks_c.proofs.GuardLemmas.{asked, stays}
use Rattle.coniks_c.proofs.guard.coniks_guard_ask.Goals as goal

pub returns-in-Ok-clause-asks : goal.returns-in-Ok-clause-asks
returns-in-Ok-clause-asks c = λ _.
    let next = c.in-Ok.next in
    let raws = c.args.abandoned.now in
    asked next c.guard_state.result c.args.stored.now c.of.result raws raws c.body.result (raw_body c.args.body.now)
    c.guard_state.ensures c.body.ensures c.of.ensures (stays next.effect raws c.body.result c.in-Ok.ensures.same)
    sha256 (c.args.may_begin == 1) c.in-Ok.ensures.ok
