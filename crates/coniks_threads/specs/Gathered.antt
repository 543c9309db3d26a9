-- What a seat has once it took in some drawers.
use Rattle.std.specs.Prelude.{◌≡◌, ℕ, ◌+◌, List, [], ◌∷◌}
use Rattle.coniks_threads.specs.declared.claims_rule.DrawerView.{DrawerView}
use Rattle.coniks_threads.specs.Draws.{times, times_over}
use Rattle.coniks_threads.specs.Drawers.{Drawing, lists_of}
use Rattle.coniks_threads.specs.ClaimsRule.{parts_of, outs_of}

-- the parts of these drawers together, and how many of them are out
abbrev pub parts_over : List Drawing → ℕ
parts_over [] = 0
parts_over (d ∷ ds) = parts_of d.first d.splits + parts_over ds

abbrev pub outs_over : List Drawing → ℕ
outs_over [] = 0
outs_over (d ∷ ds) = outs_of d.out + outs_over ds

-- v with the drawers ds has exactly what w with the drawers es has
pub record Gathered (v : DrawerView) (ds : List Drawing) (w : DrawerView) (es : List Drawing) : Type 0 where
  pub parts : v.parts + parts_over ds ≡ w.parts + parts_over es
  pub outs : v.outs + outs_over ds ≡ w.outs + outs_over es
  pub lists : (x : ℕ) → times x v.list + times_over x (lists_of ds) ≡ times x w.list + times_over x (lists_of es)
