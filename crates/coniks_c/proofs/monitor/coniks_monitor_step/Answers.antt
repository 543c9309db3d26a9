use Rattle.std.proofs.Common.{rules, ◌≡◌, ap, ◌∙◌}
use Rattle.coniks_proof.specs.declared.checker.CheckFault.{CheckFault}
use Rattle.coniks_chain.specs.declared.seen.MonitorFault.TheVariants.{Check}
use Rattle.coniks_c.specs.Crossing.{before_in}
use Rattle.coniks_c.proofs.VerdictLemmas.{checked_alike}
use Rattle.coniks_c.proofs.monitor.coniks_monitor_step.Goals as goal

-- the entry follows under any function that gives the caller's verdict, and the error is the proof's
pub returns-in-Err-Check-clause-checked : goal.returns-in-Err-Check-clause-checked
returns-in-Err-Check-clause-checked c fault is verdict reported =
    let same : c.in-Err-Check.fault ≡ fault = search rules in
    let check : c.in-Err-Check.field-0 ≡ Check c.in-Err-Check.fault = search rules in
    let before : c.resume-auditor.result.1 ≡ before_in c.args.state.now = search rules in (
      c.in-Ok.proof,
      c.in-Ok.ensures.accepted,
      checked_alike c.args.signature_verdict verdict c.resume-auditor.result.1 _ c.args.name.now c.args.index.now.bytes c.in-Some.entry _ c.in-Ok.proof c.in-Err-Check.field-0 fault
          c.in-Err-Check.ensures.err (check ∙ ap (λ (f : CheckFault). Check f) same) before c.in-Some.ensures.from reported,
    )
