use Rattle.std.proofs.Common.{ℕ, ◌+◌, ◌-◌, List, length, take, drop, arith, refl, ap, subst, ◌∙◌}
use Rattle.std.proofs.Math.Seq.{take-add}
use Rattle.std.proofs.lemmas.Grind.{common_steps}
use Rattle.std.proofs.lemmas.List.{take_rest, length-drop}
use Rattle.coniks_lines.specs.Known.{Sink, Appends}
use Rattle.coniks_lines.specs.Runs.{WritesOn}
use Rattle.coniks_lines.proofs.KnownLemmas.{Appends-then}
use Rattle.coniks_lines.proofs.RunsLemmas.{WritesOn-then}
use Rattle.coniks_lines.proofs.engine.write_all.Goals as goal

-- a write of the front of what was left
goes_on : (old mid new : Sink) (bytes : List ℕ) (done n : ℕ) → Appends old (take done bytes) mid
    → Appends mid (take n (take (length bytes - done) (drop done bytes))) new → Appends old (take (done + n) bytes) new
goes_on old mid new bytes done n p q = rw take-add
    (Appends-then old mid new (take done bytes) (take n (drop done bytes)) p (subst (λ (r : List ℕ). Appends mid (take n r) new) (take_rest bytes done) q))

pub loop-done-preserved : goal.loop-done-preserved
loop-done-preserved g c =
    let count = c.in-Ok.ensures.count in
    let sink = g.W.ByteOut.sink in
    let mid = sink c.loop-done.writer in
    let new = sink c.write.new.self in
    let on : WritesOn mid new = grind (arith, common_steps) in
    record {
      within = omega (arith, count, take_rest c.args.bytes.now c.loop-done.done, length-drop c.loop-done.done c.args.bytes.now, ap length (take_rest c.args.bytes.now c.loop-done.done));
      written = goes_on (sink c.args.writer.now) mid new c.args.bytes.now c.loop-done.done c.in-Ok.count c.loop-done.invariant.written c.in-Ok.ensures.ok;
      writes_on = WritesOn-then (sink c.args.writer.now) mid new c.loop-done.invariant.writes_on on;
      flushes = c.in-Ok.ensures.flushes ∙ c.loop-done.invariant.flushes;
    }

pub returns-in_default-clause-err : goal.returns-in_default-clause-err
returns-in_default-clause-err g c = refl

pub returns-clause-ok : goal.returns-clause-ok
returns-clause-ok g c = grind (arith, common_steps)
