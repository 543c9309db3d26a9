-- Totals over the views of all drawers, after a change of one of them.
use Rattle.std.proofs.Common.{◌≡◌, ◌≢◌, ℕ, zero, suc, ◌+◌, ◌<◌, ◌≤◌, min, List, [], ◌∷◌, ◌++◌, set, sym, refl, ap, subst, ⊎_elim, arith}
use Rattle.std.proofs.lemmas.Bool.Decides.{nat_tests}
use mathlib.Core.Option.{some, some-injective, some-ne-none}
use lib.ListN.{get_elem?}
use Rattle.atomic_table.proofs.Lists.{at_set, at_snoc}
use Rattle.coniks_threads.specs.declared.claims_rule.DrawerView.{DrawerView}
use Rattle.coniks_threads.specs.Draws.{times, once_below}
use Rattle.coniks_threads.specs.ClaimsRule.{total}

-- the total after one view was changed
pub total_set : (f : DrawerView → ℕ) (views : List DrawerView) (id : ℕ) (v w : DrawerView) → get_elem? views id ≡ some v → total f (set views id w) + f v ≡ total f views + f w
total_set f [] id v w at = absurd (some-ne-none v (sym at))
total_set f (x ∷ xs) zero v w at = let e : f x ≡ f v = ap f (some-injective x v at) in omega arith
total_set f (x ∷ xs) (suc id) v w at = let h = total_set f xs id v w at in omega arith

-- the total with one more view
pub total_snoc : (f : DrawerView → ℕ) (views : List DrawerView) (w : DrawerView) → total f (views ++ w ∷ []) ≡ total f views + f w
total_snoc f [] w = omega arith
total_snoc f (x ∷ xs) w = let h = total_snoc f xs w in omega arith

-- no view has more than the total
pub total_at : (f : DrawerView → ℕ) (views : List DrawerView) (id : ℕ) (v : DrawerView) → get_elem? views id ≡ some v → f v ≤ total f views
total_at f [] id v at = absurd (some-ne-none v (sym at))
total_at f (x ∷ xs) zero v at = let e : f x ≡ f v = ap f (some-injective x v at) in omega arith
total_at f (x ∷ xs) (suc id) v at = let h = total_at f xs id v at in omega arith

-- where no view has more of f than of g, the total has not
pub total_below : (f g : DrawerView → ℕ) (views : List DrawerView) → ((i : ℕ) (v : DrawerView) → get_elem? views i ≡ some v → f v ≤ g v) → total f views ≤ total g views
total_below f g [] each = omega arith
total_below f g (x ∷ xs) each = let a = each 0 x refl in let h = total_below f g xs (λ i v at. each (suc i) v at) in omega arith

-- where no view has a part, none has a number
pub total_none : (f : DrawerView → ℕ) (views : List DrawerView) → total (λ v. v.parts) views ≡ 0 → ((i : ℕ) (v : DrawerView) → get_elem? views i ≡ some v → v.parts ≡ 0 → f v ≡ 0) → total f views ≡ 0
total_none f [] e each = refl
total_none f (x ∷ xs) e each = let a : x.parts ≡ 0 = omega arith in let b = each 0 x refl a in let h = total_none f xs (omega arith) (λ i v at p. each (suc i) v at p) in omega arith

-- where one view has every part, the others add nothing
pub total_alone : (f : DrawerView → ℕ) (views : List DrawerView) (id : ℕ) (v : DrawerView) → get_elem? views id ≡ some v → total (λ v. v.parts) views ≡ v.parts
    → ((i : ℕ) (v : DrawerView) → get_elem? views i ≡ some v → v.parts ≡ 0 → f v ≡ 0) → total f views ≡ f v
total_alone f [] id v at e each = absurd (some-ne-none v (sym at))
total_alone f (x ∷ xs) zero v at e each =
    let same : x ≡ v = some-injective x v at in
    let p : x.parts ≡ v.parts = ap (λ (y : DrawerView). y.parts) same in
    let q : f x ≡ f v = ap f same in
    let h = total_none f xs (omega arith) (λ i u b z. each (suc i) u b z) in omega arith
total_alone f (x ∷ xs) (suc id) v at e each =
    let most : v.parts ≤ total (λ v. v.parts) xs = total_at (λ v. v.parts) xs id v at in
    let a : x.parts ≡ 0 = omega arith in
    let b = each 0 x refl a in
    let h = total_alone f xs id v at (omega arith) (λ i u b z. each (suc i) u b z) in omega arith

-- what holds of each view holds after a change of one
pub all_set : (P : DrawerView → Type 0) (views : List DrawerView) (id : ℕ) (w : DrawerView)
    → ((i : ℕ) (v : DrawerView) → get_elem? views i ≡ some v → P v) → P w → (i : ℕ) (v : DrawerView) → get_elem? (set views id w) i ≡ some v → P v
all_set P views id w each here i v at = ⊎_elim (λ (x : (i ≡ id) × (w ≡ v)). subst P x.1 here) (λ (x : (i ≢ id) × (get_elem? views i ≡ some v)). each i v x.1) (at_set views id i w v at)

-- and with one more
pub all_snoc : (P : DrawerView → Type 0) (views : List DrawerView) (w : DrawerView)
    → ((i : ℕ) (v : DrawerView) → get_elem? views i ≡ some v → P v) → P w → (i : ℕ) (v : DrawerView) → get_elem? (views ++ w ∷ []) i ≡ some v → P v
all_snoc P views w each here i v at = ⊎_elim (λ (x : get_elem? views i ≡ some v). each i v x) (λ (x : w ≡ v). subst P x here) (at_snoc views w v i at)

-- how often x stands in two lists
pub times_append : (x : ℕ) (a b : List ℕ) → times x (a ++ b) ≡ times x a + times x b
times_append x [] b = omega arith
times_append x (y ∷ ys) b = let h = times_append x ys b in omega arith

-- one more number is below the next bound
pub once_next : (x w n : ℕ) → w < n → once_below x (min (w + 1) n) ≡ once_below x (min w n) + times x (w ∷ [])
once_next x w n less = grind (arith, nat_tests)

-- past n nothing changes
pub once_full : (x w n : ℕ) → n ≤ w → once_below x (min (w + 1) n) ≡ once_below x (min w n)
once_full x w n more = ap (once_below x) (omega arith)
