-- The rule of the claims: how the one word and the views of all seats are related between any two steps.
use Rattle.std.specs.Prelude.{◌≡◌, ℕ, ◌+◌, ◌-◌, ◌<◌, ◌≤◌, ltb, if◌then◌else◌, min, Bool, true, false, List, [], ◌∷◌, ◌++◌, length}
use mathlib.Core.Option.{some}
use lib.ListN.{get_elem?}
use Rattle.atomic_table.specs.Table.{State, Step, Me}
use Rattle.coniks_threads.specs.Limits.{most_numbers, most_drawers}
use Rattle.coniks_threads.specs.declared.claims_rule.DrawerView.{DrawerView}
use Rattle.coniks_threads.specs.Draws.{times, once_below}
use Rattle.coniks_threads.specs.Drawers.{Drawing}

abbrev pub drawer_view : List ℕ → ℕ → ℕ → ℕ → DrawerView
drawer_view list parts outs limit = record { list = list; parts = parts; outs = outs; limit = limit }

-- f of each view, added up
abbrev pub total : (DrawerView → ℕ) → List DrawerView → ℕ
total f [] = 0
total f (v ∷ vs) = f v + total f vs

-- A view that still has a part knows n. It is out only where the word has reached n, and
-- for each part once at most. One with no part is spent, and has no number.
pub record FitsClaims (n word : ℕ) (v : DrawerView) : Type 0 where
  pub limit : 0 < v.parts → v.limit ≡ n
  pub out : 0 < v.outs → n ≤ word
  pub outs : v.outs ≤ v.parts
  pub spent : v.parts ≡ 0 → v.list ≡ []

-- The numbers below the lesser of the word and n stand in the lists, each once, and no other number does. The word is at
-- most n, and one more for each drawer that is out. The parts are 64 in all, so who has them all has every list.
pub record HoldsClaims (n word : ℕ) (views : List DrawerView) : Type 0 where
  pub parts : total (λ v. v.parts) views ≡ most_drawers
  pub drawn : (x : ℕ) → total (λ v. times x v.list) views ≡ once_below x (min word n)
  pub count : total (λ v. length v.list) views ≡ min word n
  pub most : word ≤ n + total (λ v. v.outs) views
  pub each : (i : ℕ) (v : DrawerView) → get_elem? views i ≡ some v → FitsClaims n word v

-- the rule of the claims of the numbers below n
abbrev pub IsByClaims : {S : Type 0} → ℕ → State S DrawerView → Type 0
IsByClaims n s = (n ≤ most_numbers) × ((word : ℕ) × (s.words ≡ word ∷ []) × HoldsClaims n word s.views)

-- the view after a draw that found k: k is added to the list if it is below n; else the drawer is out
abbrev pub after_draw : DrawerView → ℕ → DrawerView
after_draw v k = if ltb k v.limit then drawer_view (v.list ++ k ∷ [])
    v.parts v.outs v.limit else drawer_view v.list v.parts (v.outs + 1) v.limit

-- the result of one draw: the new view, whose list has at most n numbers
abbrev pub Drew : {S : Type 0} → Step S → Me S DrawerView → ℕ → Me S DrawerView → Type 0
Drew s v found w = (w.1 ≡ v.1) × (w.0 ≡ after_draw v.0 found) × (length w.0.list ≤ v.0.limit)

-- a view that took in another
abbrev pub both_views : DrawerView → DrawerView → DrawerView
both_views v w = drawer_view (v.list ++ w.list) (v.parts + w.parts) (v.outs + w.outs) v.limit

-- what is left of a view that was taken in
abbrev pub spent_view : DrawerView
spent_view = drawer_view [] 0 0 0

-- 1 for a drawer that has returned None
abbrev pub outs_of : Bool → ℕ
outs_of true = 1
outs_of false = 0

-- the first drawer has all parts, less one for each split, and any other has one
abbrev pub parts_of : Bool → ℕ → ℕ
parts_of true splits = (most_drawers - 1 - splits) + 1
parts_of false splits = 1

-- the view of a drawer's seat
abbrev pub view_of : Drawing → DrawerView
view_of d = drawer_view d.list (parts_of d.first d.splits) (outs_of d.out) d.limit
