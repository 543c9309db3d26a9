use Rattle.std.proofs.Common.{◌==◌, sym, ap, ◌∙◌, take}
use Rattle.coniks_chain.specs.Guard.{bodies_in, raw_body, rivals}
use Rattle.coniks_c.proofs.GuardLemmas.{changes, only-same, signed, stays}
use Rattle.coniks_c.proofs.guard.coniks_guard_sign.Goals as goal

pub returns-then-is_narrowed-clause-signs : goal.returns-then-is_narrowed-clause-signs
returns-then-is_narrowed-clause-signs c = λ _.
    let next = c.in-Ok.next in
    let olds = take c.args.count.now c.args.abandoned.now in
    let news = take c.narrow.result c.narrow.new.abandoned in
    let retained = c.narrow.ensures.retained ∙ ap (λ b. rivals b (bodies_in olds)) (sym c.body.ensures) in
    signed next c.guard_state.result c.args.stored.now c.of.result olds news c.body.result (raw_body c.args.body.now)
    c.guard_state.ensures c.body.ensures c.of.ensures (changes next.effect _ olds news c.body.result (c.is_narrowed.ensures.0 c.if-is_narrowed.true) retained)
    (c.args.replaces == 1) (record { 0 = c.args.signature.now.bytes }) c.in-Ok.ensures.ok

pub returns-else-is_narrowed-clause-signs : goal.returns-else-is_narrowed-clause-signs
returns-else-is_narrowed-clause-signs c = λ _.
    let next = c.in-Ok.next in
    let raws = take c.args.count.now c.args.abandoned.now in
    let same = only-same next.effect c.in-Ok.ensures.effect (λ e. let t = c.is_narrowed.ensures.1 e in let f = c.if-is_narrowed.false in cc) in
    signed next c.guard_state.result c.args.stored.now c.of.result raws raws c.body.result (raw_body c.args.body.now)
    c.guard_state.ensures c.body.ensures c.of.ensures (stays next.effect raws c.body.result same)
    (c.args.replaces == 1) (record { 0 = c.args.signature.now.bytes }) c.in-Ok.ensures.ok
