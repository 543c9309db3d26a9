use Rattle.std.proofs.Common.{◌≡◌, Some, arith, subst}
use Rattle.std.specs.List.{slice_get}
use Rattle.coniks_quorum.specs.Saved.{saved_change}
use Rattle.coniks_quorum.proofs.StateWalkLemmas.{leaves-next, next_change, no_next}
use Rattle.coniks_quorum.proofs.states.state.Watched.change_at.Goals as goal

pub returns-in_default-clause-none : goal.returns-in_default-clause-none
returns-in_default-clause-none c = λ saved sized says.
    omega (
      arith,
      no_next saved.changes c.loop-before._before c.loop-before.rest.now sized.changes
          (c.loop-before.invariant saved.changes sized.changes says.changes) c.in_default.ensures.none,
    )

pub loop-before-preserved : goal.loop-before-preserved
loop-before-preserved c =
    leaves-next c.args.self.now.changes.now c.loop-before._before c.loop-before.rest.now c.in-Some.after.now (saved_change c.in-Some.field-0-0) c.loop-before.invariant
    c.in-Some.ensures.some

pub returns-in_default-split_change-clause-none : goal.returns-in_default-split_change-clause-none
returns-in_default-split_change-clause-none c = λ saved sized says.
    omega (
      arith,
      no_next saved.changes c.loop-before._before c.loop-before.rest.now sized.changes
          (c.loop-before.invariant saved.changes sized.changes says.changes) c.in_default-split_change.ensures.none,
    )

pub returns-clause-some : goal.returns-clause-some
returns-clause-some c = λ saved sized says.
    let here : c.loop-before._before ≡ c.args.place = omega arith in
    subst (λ k. slice_get saved.changes k ≡ Some (saved_change c.in-Some-split_change.change)) here (
    next_change saved.changes c.loop-before._before c.loop-before.rest.now c.in-Some-split_change.field-0-1.now (saved_change c.in-Some-split_change.change)
    sized.changes (c.loop-before.invariant saved.changes sized.changes says.changes) c.in-Some-split_change.ensures.some
    ).0
