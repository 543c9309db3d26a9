use Rattle.std.proofs.Common.{◌∙◌, ◌∷◌, [], ◌++◌, sym, ap, take}
use Rattle.coniks_chain.specs.Guard.{bodies_in, raw_body}
use Rattle.coniks_c.proofs.GuardLemmas.{abandoned, changes, only-same, stays}
use Rattle.coniks_c.proofs.guard.coniks_guard_abandon.Goals as goal

pub returns-clause-abandons : goal.returns-clause-abandons
returns-clause-abandons c = λ _. elim c.if-is_added.branch [
  | goal.then-is_added+else-count-abandoned-2 w ↦ rw (w.abandoned-is, w.count-is) (
      let next = c.in-Ok.next in
      let olds = take c.args.count.now c.args.abandoned.now in
      let added = w.append.ensures ∙ ap (λ b. bodies_in olds ++ b ∷ []) (sym c.body.ensures) in
      abandoned next c.guard_state.result c.args.stored.now c.of.result olds _ c.body.result (raw_body c.args.body.now)
      c.guard_state.ensures c.body.ensures c.of.ensures (changes next.effect _ olds _ c.body.result (c.is_added.ensures.0 w.if-is_added.true) added) c.in-Ok.ensures.ok)
  | goal.else-is_added w ↦ rw (w.abandoned-is, w.count-is) (
      let next = c.in-Ok.next in
      let raws = take c.args.count.now c.args.abandoned.now in
      let same = only-same next.effect (λ e. let t = c.is_added.ensures.1 e in let f = w.if-is_added.false in cc) c.in-Ok.ensures.effect in
      abandoned next c.guard_state.result c.args.stored.now c.of.result raws raws c.body.result (raw_body c.args.body.now)
      c.guard_state.ensures c.body.ensures c.of.ensures (stays next.effect raws c.body.result same) c.in-Ok.ensures.ok)
]
