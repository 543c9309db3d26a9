-- Which of two indices is less: by their bits, and by their bytes.
use mathlib.Core.Bool.{beq}
use Rattle.std.proofs.Common.{◌≡◌, ℕ, zero, suc, ◌+◌, ◌-◌, ◌<◌, ◌≤◌, List, [], ◌∷◌, ◌++◌, Bool, true, false, cond, not, ◌&&◌, ◌||◌}
use Rattle.std.proofs.Common.{refl, sym, ap, subst, ◌∙◌, arith, length}
use Rattle.coniks_proof.specs.Bits.{bit_at}
use Rattle.coniks_proof.specs.Changes.{AreInOrder, AreIncreasing, InOrderWithin, IsBefore}
use Rattle.coniks_proof.specs.Entries.{half}
use Rattle.coniks_proof.specs.Maps.{IsIndex, IsMap}
use Rattle.coniks_proof.proofs.Lemmas.{AreIncreasing-in_order, in_order-AreIncreasing, increasing_map, length-halves}
use Rattle.coniks_tree.specs.Pages.{is_less_from, is_less_within}
use Rattle.coniks_tree.specs.Table.{Numbered}
use Rattle.coniks_tree.proofs.EntriesLemmas.{halves-few}

-- ---- level by level

-- what the bits of a level say, and what those below it say
abbrev by_bits : Bool → Bool → Bool → Bool
by_bits here there below = cond here (there && below) (there || below)

less-step : (k : ℕ) (x y : List ℕ) → k < 256 → is_less_from k x y ≡ by_bits (bit_at x k) (bit_at y k) (is_less_from (k + 1) x y)
unfolding is_less_from is_less_within
less-step k x y short =
    let here : 256 - k ≡ suc (255 - k) = omega arith in
    let below : 255 - k ≡ 256 - suc k = omega arith in
    let deeper : suc k ≡ k + 1 = omega arith in
    ap (λ n. is_less_within n k x y) here
    ∙ ap (λ n. by_bits (bit_at x k) (bit_at y k) (is_less_within n (suc k) x y)) below
    ∙ ap (λ n. by_bits (bit_at x k) (bit_at y k) (is_less_from n x y)) deeper

-- below the last bit, neither is less
pub less-end : (k : ℕ) (x y : List ℕ) → 256 ≤ k → is_less_from k x y ≡ false
unfolding is_less_from is_less_within
less-end k x y deep = let none : 256 - k ≡ 0 = omega arith in ap (λ n. is_less_within n k x y) none

-- the bits of a level differ: they decide
pub less-differ : (k : ℕ) (x y : List ℕ) (here there : Bool) → k < 256 → bit_at x k ≡ here → bit_at y k ≡ there → not (beq here there) ≡ true → is_less_from k x y ≡ there
less-differ k x y true true short at at' differ = cc
less-differ k x y false false short at at' differ = cc
less-differ k x y true false short at at' differ = less-step k x y short ∙ rw (at, at') refl
less-differ k x y false true short at at' differ = less-step k x y short ∙ rw (at, at') refl

-- the bits of a level are the same: those below decide
pub less-same : (k : ℕ) (x y : List ℕ) (here there : Bool) → k < 256 → bit_at x k ≡ here → bit_at y k ≡ there → not (beq here there) ≡ false
    → is_less_from k x y ≡ is_less_from (k + 1) x y
less-same k x y true true short at at' same = less-step k x y short ∙ rw (at, at') refl
less-same k x y false false short at at' same = less-step k x y short ∙ rw (at, at') refl
less-same k x y true false short at at' same = cc
less-same k x y false true short at at' same = cc

-- ---- an order

itself_within : (h k : ℕ) (x : List ℕ) → is_less_within h k x x ≡ false
unfolding is_less_within
itself_within zero k x = refl
itself_within (suc h) k x =
    let below = is_less_within h (suc k) x x in
    elim (bit_at x k) as (λ b. by_bits b b below ≡ false) [ true ↦ itself_within h (suc k) x | false ↦ itself_within h (suc k) x ]

-- no index is less than itself
pub less-itself : (x : List ℕ) → is_less_from 0 x x ≡ false
unfolding is_less_from
less-itself x = itself_within 256 0 x

turned : (b c below back : Bool) → (below ≡ true → back ≡ false) → by_bits b c below ≡ true → by_bits c b back ≡ false
turned true true below back turn less = turn less
turned false false below back turn less = turn less
turned true false below back turn less = cc
turned false true below back turn less = refl

turned_within : (h k : ℕ) (x y : List ℕ) → is_less_within h k x y ≡ true → is_less_within h k y x ≡ false
unfolding is_less_within
turned_within zero k x y less = refl
turned_within (suc h) k x y less =
    turned (bit_at x k) (bit_at y k) (is_less_within h (suc k) x y) (is_less_within h (suc k) y x) (turned_within h (suc k) x y) less

-- of two indices one at most is less
pub less-turned : (x y : List ℕ) → is_less_from 0 x y ≡ true → is_less_from 0 y x ≡ false
unfolding is_less_from
less-turned x y less = turned_within 256 0 x y less

chained : (b c d first second both : Bool) → (first ≡ true → second ≡ true → both ≡ true)
    → by_bits b c first ≡ true → by_bits c d second ≡ true → by_bits b d both ≡ true
chained true true true first second both chain less less' = chain less less'
chained true true false first second both chain less less' = cc
chained true false d first second both chain less less' = cc
chained false true true first second both chain less less' = refl
chained false true false first second both chain less less' = cc
chained false false true first second both chain less less' = refl
chained false false false first second both chain less less' = chain less less'

chained_within : (h k : ℕ) (x y z : List ℕ) → is_less_within h k x y ≡ true → is_less_within h k y z ≡ true → is_less_within h k x z ≡ true
unfolding is_less_within
chained_within zero k x y z less less' = less
chained_within (suc h) k x y z less less' =
    chained (bit_at x k) (bit_at y k) (bit_at z k) (is_less_within h (suc k) x y) (is_less_within h (suc k) y z) (is_less_within h (suc k) x z)
    (chained_within h (suc k) x y z) less less'

-- an index that is less than a lesser one is less
pub less-trans : (x y z : List ℕ) → is_less_from 0 x y ≡ true → is_less_from 0 y z ≡ true → is_less_from 0 x z ≡ true
unfolding is_less_from
less-trans x y z less less' = chained_within 256 0 x y z less less'

-- ---- by bits and by bytes

-- at most one entry is in order
in_order-of_few : (h k : ℕ) (es : List Numbered) → length es ≤ 1 → InOrderWithin h k es
unfolding InOrderWithin
in_order-of_few zero k es few = few
in_order-of_few (suc h) k es few =
    let all = length-halves k es in (
      sym (halves-few k es few),
      in_order-of_few h (suc k) (half false k es) (omega (arith, all, few)),
      in_order-of_few h (suc k) (half true k es) (omega (arith, all, few)),
    )

-- at a level, two entries of which the first is less are in order
ordered_by : (h k : ℕ) (e f : Numbered) (b c : Bool) → bit_at e.index k ≡ b → bit_at f.index k ≡ c
    → (is_less_within h (suc k) e.index f.index ≡ true → InOrderWithin h (suc k) (e ∷ f ∷ []))
    → by_bits b c (is_less_within h (suc k) e.index f.index) ≡ true → InOrderWithin (suc h) k (e ∷ f ∷ [])
unfolding InOrderWithin
ordered_by h k e f true true at at' below less = rw (at, at') (refl, in_order-of_few h (suc k) [] (omega arith), below less)
ordered_by h k e f false false at at' below less = rw (at, at') (refl, below less, in_order-of_few h (suc k) [] (omega arith))
ordered_by h k e f false true at at' below less =
    rw (at, at') (refl, in_order-of_few h (suc k) (e ∷ []) (omega arith), in_order-of_few h (suc k) (f ∷ []) (omega arith))
ordered_by h k e f true false at at' below less = cc

less-ordered : (h k : ℕ) (e f : Numbered) → is_less_within h k e.index f.index ≡ true → InOrderWithin h k (e ∷ f ∷ [])
unfolding is_less_within
less-ordered zero k e f less = cc
less-ordered (suc h) k e f less = ordered_by h k e f (bit_at e.index k) (bit_at f.index k) refl refl (less-ordered h (suc k) e f) less

-- at a level, of two entries in order the first is less
less_by : (h k : ℕ) (e f : Numbered) (b c : Bool) → bit_at e.index k ≡ b → bit_at f.index k ≡ c
    → (InOrderWithin h (suc k) (e ∷ f ∷ []) → is_less_within h (suc k) e.index f.index ≡ true)
    → InOrderWithin (suc h) k (e ∷ f ∷ []) → by_bits b c (is_less_within h (suc k) e.index f.index) ≡ true
unfolding InOrderWithin
less_by h k e f true true at at' below order =
    let both : half true k (e ∷ f ∷ []) ≡ e ∷ f ∷ [] = rw (at, at') refl in below (subst (InOrderWithin h (suc k)) both order.2)
less_by h k e f false false at at' below order =
    let both : half false k (e ∷ f ∷ []) ≡ e ∷ f ∷ [] = rw (at, at') refl in below (subst (InOrderWithin h (suc k)) both order.1)
less_by h k e f false true at at' below order = refl
less_by h k e f true false at at' below order =
    let swapped : half false k (e ∷ f ∷ []) ++ half true k (e ∷ f ∷ []) ≡ f ∷ e ∷ [] = rw (at, at') refl in
    let turn : (let xs : List Numbered = e ∷ f ∷ [] in xs ≡ f ∷ e ∷ []) = order.0 ∙ swapped in
    let same : e ≡ f = cc in
    sym at' ∙ ap (λ (x : Numbered). bit_at x.index k) (sym same) ∙ at

ordered-less : (h k : ℕ) (e f : Numbered) → InOrderWithin h k (e ∷ f ∷ []) → is_less_within h k e.index f.index ≡ true
unfolding is_less_within InOrderWithin
ordered-less zero k e f order = absurd (omega (arith, order))
ordered-less (suc h) k e f order = less_by h k e f (bit_at e.index k) (bit_at f.index k) refl refl (ordered-less h (suc k) e f) order

-- an entry at an index, whatever it commits to
abbrev entry_of : List ℕ → Numbered
entry_of index = record { index = index; commitment = []; behind = 0 }

-- an index that is less by its bits is less by its bytes
pub less-before : (x y : List ℕ) → IsIndex x → IsIndex y → is_less_from 0 x y ≡ true → IsBefore x y
unfolding is_less_from AreInOrder
less-before x y ix iy less =
    let es : List Numbered = entry_of x ∷ entry_of y ∷ [] in
    let other : x ≡ y → ⊥ = λ same. let not_less = itself_within 256 0 x in let less' = subst (λ z. is_less_within 256 0 x z ≡ true) (sym same) less in cc in
    let map : IsMap es = (ix, (other, tt), (iy, tt, tt)) in
    (in_order-AreIncreasing es map (less-ordered 256 0 (entry_of x) (entry_of y) less)).1.0

-- an index that is less by its bytes is less by its bits
pub before-less : (x y : List ℕ) → IsIndex x → IsIndex y → IsBefore x y → is_less_from 0 x y ≡ true
unfolding is_less_from AreInOrder
before-less x y ix iy before =
    let es : List Numbered = entry_of x ∷ entry_of y ∷ [] in
    let up : AreIncreasing es = (ix, (before, tt), (iy, tt, tt)) in
    ordered-less 256 0 (entry_of x) (entry_of y) (AreIncreasing-in_order es (increasing_map es up) up)
