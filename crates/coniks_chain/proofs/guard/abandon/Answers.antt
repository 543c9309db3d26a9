use Rattle.std.proofs.Common.{◌≡◌, refl, arith}
use Rattle.coniks_chain.specs.Guard.{drops, last_epoch}
use Rattle.coniks_chain.proofs.guard.abandon.Goals as goal

pub returns-clause-ok : goal.returns-clause-ok
returns-clause-ok c =
    let f = c.if-settles.false in
    let here : c.args.body.now.t_prev ≡ last_epoch c.args.guard_state.now.signed = omega (arith, c.last_epoch-last.ensures, c.if-body-last.false, c.if-body-last-2.false) in
    drops c.closed-asked.result (λ settled. let t = c.settles.ensures.1 settled in cc) here c.closed-asked.ensures refl
