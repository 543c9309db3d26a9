-- What seats have that took in drawers, and what the drawers' fields say of it.
use Rattle.std.proofs.Common.{◌≡◌, ℕ, ◌+◌, ◌<◌, ◌≤◌, Bool, true, false, List, [], ◌∷◌, ◌++◌, length, min, ap, ◌∙◌, ⊎_elim, arith}
use lib.ListN.{get_elem?}
use mathlib.Core.Option.{some}
use Rattle.coniks_threads.specs.declared.claims_rule.DrawerView.{DrawerView}
use Rattle.coniks_threads.specs.Draws.{times, times_over, once_below, Draws}
use Rattle.coniks_threads.specs.Drawers.{Drawing, lists_of, HasFirst, SomeOut}
use Rattle.coniks_threads.specs.ClaimsRule.{HoldsClaims, outs_of, parts_of, view_of, both_views}
use Rattle.coniks_threads.specs.Gathered.{Gathered, parts_over, outs_over}
use Rattle.coniks_threads.proofs.TotalLemmas.{times_append, total_at}
use Rattle.coniks_threads.proofs.ClaimsSteps.{learns}

-- each drawer has a part
pub some_part : (b : Bool) (splits : ℕ) → 0 < parts_of b splits
some_part true splits = omega arith
some_part false splits = omega arith

-- the first drawer has two, while it may be split
pub spare_part : (b : Bool) (splits : ℕ) → b ≡ true → splits < 63 → 1 < parts_of b splits
spare_part true splits is less = omega arith
spare_part false splits is less = cc

-- a drawer is out once at most
pub outs_few : (b : Bool) → outs_of b ≤ 1
outs_few true = omega arith
outs_few false = omega arith

-- a seat that took in one drawer
pub took : (v u w : DrawerView) (d : Drawing) → u ≡ view_of d → w ≡ both_views v u → Gathered w [] v (d ∷ [])
took v u w d is both =
    let all : w ≡ both_views v (view_of d) = both ∙ ap (both_views v) is in
    record {
      parts = (let e = ap (λ (y : DrawerView). y.parts) all in omega arith);
      outs = (let e = ap (λ (y : DrawerView). y.outs) all in omega arith);
      lists = λ x. (let e : times x w.list ≡ times x (v.list ++ d.list) = ap (λ (y : DrawerView). times x y.list) all in omega (arith, times_append x v.list d.list));
    }

-- parts, outs and lists of one more drawer
parts_snoc : (ds : List Drawing) (d : Drawing) → parts_over (ds ++ d ∷ []) ≡ parts_over ds + parts_of d.first d.splits
parts_snoc [] d = omega arith
parts_snoc (e ∷ es) d = let h = parts_snoc es d in omega arith

outs_snoc : (ds : List Drawing) (d : Drawing) → outs_over (ds ++ d ∷ []) ≡ outs_over ds + outs_of d.out
outs_snoc [] d = omega arith
outs_snoc (e ∷ es) d = let h = outs_snoc es d in omega arith

lists_snoc : (x : ℕ) (ds : List Drawing) (d : Drawing) → times_over x (lists_of (ds ++ d ∷ [])) ≡ times_over x (lists_of ds) + times x d.list
lists_snoc x [] d = omega arith
lists_snoc x (e ∷ es) d = let h = lists_snoc x es d in omega arith

-- one more drawer was taken in
pub gathered_more : (w v : DrawerView) (ds es : List Drawing) (d : Drawing) (start : DrawerView) → Gathered v (ds ++ d ∷ []) start es → Gathered w [] v (d ∷ []) → Gathered w ds start es
gathered_more w v ds es d start g h = record {
  parts = (let a = g.parts in let b = h.parts in omega (arith, parts_snoc ds d));
  outs = (let a = g.outs in let b = h.outs in omega (arith, outs_snoc ds d));
  lists = λ x. (let a = g.lists x in let b = h.lists x in omega (arith, lists_snoc x ds d));
}

-- as many parts as drawers, at least
parts_len : (ds : List Drawing) → length ds ≤ parts_over ds
parts_len [] = omega arith
parts_len (d ∷ ds) = let h = parts_len ds in let p = some_part d.first d.splits in omega arith

-- with all drawers there are all parts
first_parts : (ds : List Drawing) (n : ℕ) → HasFirst ds n → 64 + length ds ≤ parts_over ds + n
first_parts [] n h = absurd h
first_parts (d ∷ ds) n h = ⊎_elim
    (λ (x : (d.first ≡ true) × (d.splits + 1 ≡ n)).
    (let p : parts_of d.first d.splits ≡ parts_of true d.splits = ap (λ b. parts_of b d.splits) x.0 in let e = x.1 in let l = parts_len ds in omega arith))
    (λ (x : HasFirst ds n). (let i = first_parts ds n x in let p = some_part d.first d.splits in omega arith)) h

-- where one is out, not none is
some_out : (ds : List Drawing) → SomeOut ds → 0 < outs_over ds
some_out [] h = absurd h
some_out (d ∷ ds) h = ⊎_elim (λ (x : d.out ≡ true). (let p : outs_of d.out ≡ 1 = ap outs_of x in omega arith)) (λ (x : SomeOut ds). (let i = some_out ds x in omega arith)) h

-- a seat that took in all drawers has each number below n once, where one of them was out
pub closes : (n w id : ℕ) (views : List DrawerView) (taker u : DrawerView) (ds es : List Drawing) (d : Drawing)
    → HoldsClaims n w views → get_elem? views id ≡ some u → taker ≡ view_of d → Gathered u [] taker ds
    → es ≡ ds ++ d ∷ [] → HasFirst es (length es) → SomeOut es → Draws (lists_of es) n
closes n w id views taker u ds es d h at mine g is first some_is x =
    let p : parts_over es ≡ parts_over ds + parts_of d.first d.splits = ap parts_over is ∙ parts_snoc ds d in
    let o : outs_over es ≡ outs_over ds + outs_of d.out = ap outs_over is ∙ outs_snoc ds d in
    let t : times_over x (lists_of es) ≡ times_over x (lists_of ds) + times x d.list = ap (λ (l : List Drawing). times_over x (lists_of l)) is ∙ lists_snoc x ds d in
    let mp : taker.parts ≡ parts_of d.first d.splits = ap (λ (y : DrawerView). y.parts) mine in
    let mo : taker.outs ≡ outs_of d.out = ap (λ (y : DrawerView). y.outs) mine in
    let ml : times x taker.list ≡ times x d.list = ap (λ (y : DrawerView). times x y.list) mine in
    let gp = g.parts in let go = g.outs in let gl = g.lists x in
    let every : 64 ≤ u.parts = (let f = first_parts es (length es) first in omega arith) in
    let out : n ≤ w = (h.each id u at).out (let s = some_out es some_is in omega arith) in
    let all : u.parts ≡ 64 = (let m = total_at (λ v. v.parts) views id u at in let q = h.parts in omega arith) in
    let knows : times x u.list ≡ once_below x (min w n) = learns n w id views u h at all x in
    let full : once_below x (min w n) ≡ once_below x n = ap (once_below x) (omega arith) in
    omega arith
