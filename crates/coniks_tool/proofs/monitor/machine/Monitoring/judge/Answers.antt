use Rattle.std.proofs.Common.{ap, sym, ◌∙◌}
use Rattle.coniks_tool.specs.Monitor.{MonitorTurn, watching}
use Rattle.coniks_tool.specs.MonitorReplies.{watched}
use Rattle.coniks_tool.proofs.MonitorLemmas.{sound-step, refused-step}
use Rattle.coniks_tool.proofs.monitor.machine.Monitoring.judge.Goals as goal

pub returns-clause-reply : goal.returns-clause-reply
returns-clause-reply c =
    let s = watching c.self.inside.seal.key c.self.inside.monitor in
    rw (← c.self.view_is) (ap (watched c.args.entry.now.body.t) c.in-Ok.ensures.seen ∙ sym (ap (λ (t : MonitorTurn). t.outcome) (sound-step s c.args.entry.now c.args.proof.now c.in-Ok.ensures.ok)))

pub returns-clause-state : goal.returns-clause-state
returns-clause-state c =
    let s = watching c.self.inside.seal.key c.self.inside.monitor in
    rw (← c.self.view_is) (ap (watching c.self.inside.seal.key) c.in-Ok.ensures.retained ∙ sym (ap (λ (t : MonitorTurn). t.state) (sound-step s c.args.entry.now c.args.proof.now c.in-Ok.ensures.ok)))

pub returns-in-Err-clause-reply : goal.returns-in-Err-clause-reply
returns-in-Err-clause-reply c =
    let s = watching c.self.inside.seal.key c.self.inside.monitor in
    rw (← c.self.view_is) (sym (ap (λ (t : MonitorTurn). t.outcome) (refused-step s c.args.entry.now c.args.proof.now c.in-Err.fault c.in-Err.ensures.err)))

pub returns-in-Err-clause-state : goal.returns-in-Err-clause-state
returns-in-Err-clause-state c =
    let s = watching c.self.inside.seal.key c.self.inside.monitor in
    rw (← c.self.view_is) (ap (watching c.self.inside.seal.key) c.in-Err.ensures.unchanged ∙ sym
    (ap (λ (t : MonitorTurn). t.state) (refused-step s c.args.entry.now c.args.proof.now c.in-Err.fault c.in-Err.ensures.err)))
