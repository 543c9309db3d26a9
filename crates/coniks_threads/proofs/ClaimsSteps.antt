-- Each step of a drawer's seat keeps the rule of the claims.
use Rattle.std.proofs.Common.{◌≡◌, ℕ, zero, suc, ◌+◌, ◌-◌, ◌<◌, ◌≤◌, ◌%◌, ◌^◌, ltb, if◌then◌else◌, min, Bool, true, false, List, [], ◌∷◌, ◌++◌, length, slice_index, slice_set, set, sym, refl, ap, ◌∙◌, subst, arith, length-append}
use Rattle.std.proofs.lemmas.Bool.Decides.{nat_tests}
use mathlib.Core.Option.{some, none}
use lib.ListN.{get_elem?}
use Rattle.atomic_table.specs.Table.{Me, step, keeps, Allows, Splits, Joins}
use Rattle.coniks_threads.specs.declared.claims_rule.DrawerView.{DrawerView}
use Rattle.coniks_threads.specs.Draws.{times, once_below}
use Rattle.coniks_threads.specs.Limits.{most_drawers, most_numbers}
use Rattle.coniks_threads.specs.ClaimsRule.{drawer_view, total, FitsClaims, HoldsClaims, IsByClaims, Drew, after_draw, both_views, spent_view}
use Rattle.coniks_threads.proofs.TotalLemmas.{total_set, total_snoc, total_at, total_below, total_alone, all_set, all_snoc, times_append, once_next, once_full}

-- each view fits
abbrev AllFit : ℕ → ℕ → List DrawerView → Type 0
AllFit n w views = (i : ℕ) (v : DrawerView) → get_elem? views i ≡ some v → FitsClaims n w v

-- a word that grew leaves each view as good as it was
grown : (n w : ℕ) (views : List DrawerView) → AllFit n w views → AllFit n (w + 1) views
grown n w views each i v at = let f = each i v at in record { limit = f.limit; out = λ h. (let a = f.out h in omega arith); outs = f.outs; spent = f.spent }

-- the rule after a draw
stored_after : (n w : ℕ) (views : List DrawerView) (id : ℕ) (v : DrawerView) → HoldsClaims n w views
    → get_elem? views id ≡ some v → v.outs ≡ 0 → 0 < v.parts → HoldsClaims n (w + 1) (set views id (after_draw v w))
stored_after n w views id v h at fresh some_part = go (ltb w v.limit) refl
  where
    mine : FitsClaims n w v
    mine = h.each id v at

    is_n : v.limit ≡ n
    is_n = mine.limit some_part

    go : (b : Bool) → ltb w v.limit ≡ b → HoldsClaims n (w + 1) (set views id (if b then drawer_view (v.list ++ w ∷ []) v.parts v.outs v.limit else drawer_view v.list v.parts (v.outs + 1) v.limit))
    go true e =
        let u : DrawerView = drawer_view (v.list ++ w ∷ []) v.parts v.outs v.limit in
        let less : w < n = grind (arith, nat_tests) in
        record {
          parts = (let s = total_set (λ v. v.parts) views id v u at in let p = h.parts in omega arith);
          drawn = λ x. (let s = total_set (λ v. times x v.list) views id v u at in let d = h.drawn x in omega (arith, times_append x v.list (w ∷ []), once_next x w n less));
          count = (let s = total_set (λ v. length v.list) views id v u at in let d = h.count in omega (arith, length-append v.list (w ∷ [])));
          most = (let s = total_set (λ v. v.outs) views id v u at in omega arith);
          each = all_set (FitsClaims n (w + 1)) views id u (grown n w views h.each)
              record { limit = λ _. is_n; out = λ some_out. absurd (omega arith); outs = mine.outs; spent = λ none. absurd (omega arith) };
        }
    go false e =
        let u : DrawerView = drawer_view v.list v.parts (v.outs + 1) v.limit in
        let full : n ≤ w = grind (arith, nat_tests) in
        record {
          parts = (let s = total_set (λ v. v.parts) views id v u at in let p = h.parts in omega arith);
          drawn = λ x. (let s = total_set (λ v. times x v.list) views id v u at in let d = h.drawn x in omega (arith, once_full x w n full));
          count = (let s = total_set (λ v. length v.list) views id v u at in let d = h.count in omega arith);
          most = (let s = total_set (λ v. v.outs) views id v u at in let m = h.most in omega arith);
          each = all_set (FitsClaims n (w + 1)) views id u (grown n w views h.each) record { limit = λ _. is_n; out = λ _. omega arith; outs = omega arith; spent = λ none. absurd (omega arith) };
        }

-- what was put at a place stands there
set_there : (views : List DrawerView) (id : ℕ) (v u : DrawerView) → get_elem? views id ≡ some v → get_elem? (set views id u) id ≡ some u
set_there [] id v u at = absurd (mathlib.Core.Option.some-ne-none v (sym at))
set_there (x ∷ xs) zero v u at = refl
set_there (x ∷ xs) (suc id) v u at = set_there xs id v u at

-- the word stays far below 2 ^ 64
small : (n w : ℕ) (views : List DrawerView) → n ≤ most_numbers → HoldsClaims n w views → w ≤ most_numbers + most_drawers
small n w views le h =
    let a : total (λ v. v.outs) views ≤ total (λ v. v.parts) views = total_below (λ v. v.outs) (λ v. v.parts) views (λ i v at. (h.each i v at).outs) in
    let p = h.parts in let m = h.most in omega arith

-- a draw adds 1 to the word, which never wraps
pub draws : (n slots id : ℕ) (me : Me ℕ DrawerView) → me.0.outs ≡ 0 → 0 < me.0.parts → Allows (IsByClaims n) slots id me 0 (λ k. (k + 1) % 2 ^ 64) (Drew (step slots 0 1 0 none) me)
draws n slots id me fresh some_part s retained len at bound =
    let w : ℕ = retained.1.0 in
    let is : s.words ≡ w ∷ [] = retained.1.1 in
    let stored : HoldsClaims n w s.views = retained.1.2 in
    let found : slice_index s.words 0 ≡ w = ap (λ (l : List ℕ). slice_index l 0) is in
    let top : w ≤ most_numbers + most_drawers = small n w s.views retained.0 stored in
    let wraps : (w + 1) % 2 ^ 64 ≡ w + 1 = omega arith in
    let words : slice_set s.words 0 ((slice_index s.words 0 + 1) % 2 ^ 64) ≡ (w + 1) ∷ [] = ap (λ (l : List ℕ). slice_set l 0 ((slice_index l 0 + 1) % 2 ^ 64)) is ∙ ap (λ (k : ℕ). k ∷ []) wraps in
    let after : HoldsClaims n (w + 1) (set s.views id (after_draw me.0 (slice_index s.words 0))) = subst
    (λ (k : ℕ). HoldsClaims n (w + 1) (set s.views id (after_draw me.0 k))) (sym found) (stored_after n w s.views id me.0 stored at fresh some_part) in
    let u : DrawerView = after_draw me.0 (slice_index s.words 0) in
    let there : get_elem? (set s.views id u) id ≡ some u = set_there s.views id me.0 u at in
    let short : length u.list ≤ me.0.limit =
    (let a = total_at (λ v. length v.list) (set s.views id u) id u there in let b = after.count in let c = (stored.each id me.0 at).limit some_part in omega arith) in
    (u, keeps, tt, (retained.0, (w + 1, words, after)), (refl, refl, short))

-- a drawer with a part to spare gives it to a new one
pub cuts : (n id : ℕ) (v : DrawerView) → 1 < v.parts → v.outs < v.parts → Splits (IsByClaims {S = ℕ} n) id v (drawer_view v.list (v.parts - 1) v.outs v.limit) (drawer_view [] 1 0 v.limit)
cuts n id v spare more s retained at =
    let w : ℕ = retained.1.0 in
    let h : HoldsClaims n w s.views = retained.1.2 in
    let l : DrawerView = drawer_view v.list (v.parts - 1) v.outs v.limit in
    let r : DrawerView = drawer_view [] 1 0 v.limit in
    let mine : FitsClaims n w v = h.each id v at in (
      retained.0,
      (
        w,
        retained.1.1,
        record {
          parts = (let s' = total_set (λ v. v.parts) s.views id v l at in let p = h.parts in omega (arith, total_snoc (λ v. v.parts) (set s.views id l) r));
          drawn = λ x. (let s' = total_set (λ v. times x v.list) s.views id v l at in let d = h.drawn x in omega (arith, total_snoc (λ v. times x v.list) (set s.views id l) r));
          count = (let s' = total_set (λ v. length v.list) s.views id v l at in let d = h.count in omega (arith, total_snoc (λ v. length v.list) (set s.views id l) r));
          most = (let s' = total_set (λ v. v.outs) s.views id v l at in let m = h.most in omega (arith, total_snoc (λ v. v.outs) (set s.views id l) r));
          each = all_snoc (FitsClaims n w) (set s.views id l) r
              (all_set (FitsClaims n w) s.views id l h.each record { limit = λ _. mine.limit (omega arith); out = mine.out; outs = omega arith; spent = λ none. absurd (omega arith) })
              record { limit = λ _. mine.limit (omega arith); out = λ some_out. absurd (omega arith); outs = omega arith; spent = λ _. refl };
        },
      ),
    )

-- a drawer takes in another, which is spent
pub glues : (n id : ℕ) (v : DrawerView) (other : ℕ) (w : DrawerView) → 0 < v.parts → Joins (IsByClaims {S = ℕ} n) id v other w (both_views v w) spent_view
glues n id v other u some_part s retained at apart there =
    let w : ℕ = retained.1.0 in
    let h : HoldsClaims n w s.views = retained.1.2 in
    let both : DrawerView = both_views v u in
    let was : get_elem? s.views other ≡ some u = sym (Rattle.atomic_table.proofs.Lists.set_else s.views id other both apart) ∙ there in
    let mine : FitsClaims n w v = h.each id v at in
    let theirs : FitsClaims n w u = h.each other u was in (
      retained.0,
      (
        w,
        retained.1.1,
        record {
          parts = (let a = total_set (λ v. v.parts) s.views id v both at in let b = total_set (λ v. v.parts) (set s.views id both) other u spent_view there in let p = h.parts in omega arith);
          drawn = λ x. (let a = total_set (λ v. times x v.list) s.views id v both at in let b = total_set (λ v. times x v.list)
              (set s.views id both) other u spent_view there in let d = h.drawn x in omega (arith, times_append x v.list u.list));
          count = (let a = total_set (λ v. length v.list) s.views id v both at in let b = total_set (λ v. length v.list)
              (set s.views id both) other u spent_view there in let d = h.count in omega (arith, length-append v.list u.list));
          most = (let a = total_set (λ v. v.outs) s.views id v both at in let b = total_set (λ v. v.outs) (set s.views id both) other u spent_view there in let m = h.most in omega arith);
          each = all_set (FitsClaims n w) (set s.views id both) other spent_view
              (all_set (FitsClaims n w) s.views id both h.each
              record {
                limit = λ _. mine.limit some_part;
                out = λ some_out. grind (arith, mine.out, theirs.out);
                outs = (let a = mine.outs in let b = theirs.outs in omega arith);
                spent = λ none. absurd (omega arith);
              })
              record { limit = λ none. absurd (omega arith); out = λ none. absurd (omega arith); outs = omega arith; spent = λ _. refl };
        },
      ),
    )

-- who has every part knows every list
pub learns : (n w id : ℕ) (views : List DrawerView) (v : DrawerView) → HoldsClaims n w views → get_elem? views id ≡ some v → v.parts ≡ 64 → (x : ℕ) → times x v.list ≡ once_below x (min w n)
learns n w id views v h at every x =
    let p = h.parts in
    let t : total (λ v. times x v.list) views ≡ times x v.list = total_alone (λ v. times x v.list) views id v at (omega arith) (λ i u b none. ap (times x) ((h.each i u b).spent none)) in
    sym t ∙ h.drawn x
