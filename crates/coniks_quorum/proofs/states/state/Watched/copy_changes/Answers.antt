use Rattle.std.proofs.Common.{◌+◌, List, arith, subst, sym}
use Rattle.std.proofs.lemmas.Option.{slice_get_within}
use Rattle.coniks_client.specs.declared.changes.Change.{Change}
use Rattle.coniks_quorum.specs.Saved.{saved_change}
use Rattle.coniks_quorum.proofs.StateWalkLemmas.{AreCopied, copied-all, copied-count, copied-next, leaves-next, next_change}
use Rattle.coniks_quorum.proofs.states.state.Watched.copy_changes.Goals as goal

pub returns-then-count-out-clause-none : goal.returns-then-count-out-clause-none
returns-then-count-out-clause-none c = λ saved sized says.
    let there = next_change saved.changes c.loop-change.count c.loop-change.rest.now c.in-Some.after.now (saved_change c.in-Some.change) sized.changes
    (c.loop-change.invariant.leaves saved.changes sized.changes says.changes) c.in-Some.ensures.some in
    omega (arith, slice_get_within saved.changes c.loop-change.count (saved_change c.in-Some.change) there.0)

pub loop-change-preserved : goal.loop-change-preserved
loop-change-preserved c =
    let within = c.loop-change.invariant.within in
    record {
      leaves = leaves-next c.args.self.now.changes.now c.loop-change.count c.loop-change.rest.now c.in-Some.after.now (saved_change c.in-Some.change)
          c.loop-change.invariant.leaves c.in-Some.ensures.some;
      within = omega arith;
      copied = subst (λ (out : List Change). AreCopied c.args.self.now.changes.now (c.loop-change.count + 1) out) (sym c.set_change.ensures) (
          copied-next c.args.self.now.changes.now c.loop-change.count c.loop-change.rest.now c.in-Some.after.now c.in-Some.change c.loop-change.out (omega arith)
          c.loop-change.invariant.leaves c.in-Some.ensures.some c.loop-change.invariant.copied
          );
    }

pub returns-clause-some : goal.returns-clause-some
returns-clause-some c = λ saved sized says.
    copied-all c.args.self.now.changes.now c.loop-change.count c.loop-change.rest.now c.loop-change.out c.loop-change.invariant.leaves c.in_default.ensures.none
    c.loop-change.invariant.copied saved.changes sized.changes says.changes

pub returns-clause-count : goal.returns-clause-count
returns-clause-count c = λ saved sized says.
    copied-count c.args.self.now.changes.now c.loop-change.count c.loop-change.rest.now c.loop-change.out c.loop-change.invariant.leaves c.in_default.ensures.none
    c.loop-change.invariant.within c.loop-change.invariant.copied saved.changes sized.changes says.changes
