-- A map overwritten by changes, and its halves.
use Rattle.std.proofs.Common.{◌≡◌, ℕ, suc, ◌-◌, ◌<◌, ◌≤◌, List, [], ◌∷◌, ◌++◌, length, Bool, true, false, refl, sym, ap, subst, ◌∙◌, arith, not}
use Rattle.std.specs.List.{filter}
use Rattle.std.specs.Str.{bytes_eq}
use Rattle.std.proofs.lemmas.List.Elements.{filter-append}
use Rattle.std.proofs.lemmas.Map.Views.{any-filter_same}
use Rattle.std.proofs.lemmas.Slice.Eq.{bytes_eq-Decides}
use Rattle.coniks_proof.specs.Bits.{turns}
use Rattle.coniks_proof.specs.Entries.{Entry, half}
use Rattle.coniks_proof.specs.Changes.{has_index, overwritten, ApartWithin, AreApart, InOrderWithin, AreInOrder}

-- with no changes the map stays
pub overwritten-nothing : {B : Type 0} (es : List (Entry B)) → overwritten es [] ≡ es
unfolding overwritten
overwritten-nothing [] = refl
overwritten-nothing (e ∷ es) = ap (λ xs. e ∷ xs) (overwritten-nothing es)

-- a change of an empty map
pub overwritten-empty : {B : Type 0} (cs : List (Entry B)) → overwritten [] cs ≡ cs
unfolding overwritten
overwritten-empty [] = refl
overwritten-empty (c ∷ cs) = ap (λ xs. c ∷ xs) (overwritten-empty cs)

-- a change of the one entry
pub overwritten-same : {B : Type 0} (e c : Entry B) → bytes_eq c.index e.index ≡ true → overwritten (e ∷ []) (c ∷ []) ≡ c ∷ []
unfolding overwritten
overwritten-same e c same = rw same refl

one_of : {B : Type 0} (x : Entry B) (xs : List (Entry B)) → length (x ∷ xs) ≤ 1 → x ∷ xs ≡ x ∷ []
one_of x [] few = refl
one_of x (y ∷ ys) few = absurd (omega arith)

-- the first of the changes is there, so a map of one entry is that
pub overwritten-one : {B : Type 0} (es : List (Entry B)) (c : Entry B) (cs : List (Entry B)) → length (overwritten es (c ∷ cs)) ≤ 1 → overwritten es (c ∷ cs) ≡ c ∷ []
unfolding overwritten
overwritten-one es c cs few = one_of c _ few

-- indices with the same bytes turn the same way
has_index-half : {B : Type 0} (b : Bool) (k : ℕ) (cs : List (Entry B)) (i : List ℕ) → turns b k i ≡ true → has_index (half b k cs) i ≡ has_index cs i
has_index-half b k cs i turned =
    any-filter_same (λ e. bytes_eq e.index i) (λ e. turns b k e.index) true (λ e same. ap (turns b k) ((bytes_eq-Decides e.index i).0 same) ∙ turned) cs

swap_step : {B : Type 0} (p q r : Entry B → Bool) → ((x : Entry B) → p x ≡ true → r x ≡ q x) → (x : Entry B) (xs : List (Entry B)) (bp bq : Bool) → p x ≡ bp → q x ≡ bq
    → filter p (filter q xs) ≡ filter r (filter p xs) → filter p (filter q (x ∷ xs)) ≡ filter r (filter p (x ∷ xs))
swap_step p q r agree x xs true true pe qe ih = let re : r x ≡ true = agree x pe ∙ qe in simp (pe, qe, re, ih)
swap_step p q r agree x xs true false pe qe ih = let re : r x ≡ false = agree x pe ∙ qe in simp (pe, qe, re, ih)
swap_step p q r agree x xs false true pe qe ih = simp (pe, qe, ih)
swap_step p q r agree x xs false false pe qe ih = simp (pe, qe, ih)

-- two filters in the other order, where `r` tells of what passes `p` what `q` tells
pub filters_swap : {B : Type 0} (p q r : Entry B → Bool) → ((x : Entry B) → p x ≡ true → r x ≡ q x) → (xs : List (Entry B)) → filter p (filter q xs) ≡ filter r (filter p xs)
filters_swap p q r agree [] = refl
filters_swap p q r agree (x ∷ xs) = swap_step p q r agree x xs (p x) (q x) refl refl (filters_swap p q r agree xs)

pub half-overwritten : {B : Type 0} (b : Bool) (k : ℕ) (es cs : List (Entry B)) → half b k (overwritten es cs) ≡ overwritten (half b k es) (half b k cs)
unfolding overwritten
half-overwritten b k es cs =
    filter-append (λ e. turns b k e.index) cs _
    ∙ ap (λ xs. half b k cs ++ xs) (filters_swap (λ e. turns b k e.index) (λ e. not (has_index cs e.index)) (λ e. not (has_index (half b k cs) e.index))
    (λ e turned. ap not (has_index-half b k cs e.index turned)) es)

pub apart-last : {B : Type 0} (es : List (Entry B)) → AreApart 256 es → length es ≤ 1
unfolding AreApart ApartWithin
apart-last es h = h

pub apart-halves : {B : Type 0} (b : Bool) (k : ℕ) (es : List (Entry B)) → k < 256 → AreApart k es → AreApart (suc k) (half b k es)
unfolding AreApart ApartWithin
apart-halves b k es short h =
    let here : 256 - k ≡ suc (255 - k) = omega arith in
    let below : 256 - suc k ≡ 255 - k = omega arith in
    let both : ApartWithin (255 - k) (suc k) (half false k es) × ApartWithin (255 - k) (suc k) (half true k es) = subst (λ n. ApartWithin n k es) here h in
    subst (λ n. ApartWithin n (suc k) (half b k es)) (sym below) (elim b as (λ c. ApartWithin (255 - k) (suc k) (half c k es)) [ true ↦ both.1 | false ↦ both.0 ])

-- at each level the entries that go left come first
pub record IsSplit {B : Type 0} (k : ℕ) (es : List (Entry B)) : Type 0 where
  pub parts : es ≡ half false k es ++ half true k es
  pub left : AreInOrder (suc k) (half false k es)
  pub right : AreInOrder (suc k) (half true k es)

pub in_order-split : {B : Type 0} (k : ℕ) (es : List (Entry B)) → k < 256 → AreInOrder k es → IsSplit k es
unfolding AreInOrder InOrderWithin
in_order-split k es short h =
    let here : 256 - k ≡ suc (255 - k) = omega arith in
    let below : 256 - suc k ≡ 255 - k = omega arith in
    let all : (es ≡ half false k es ++ half true k es) × InOrderWithin (255 - k) (suc k) (half false k es)
    × InOrderWithin (255 - k) (suc k) (half true k es) = subst (λ n. InOrderWithin n k es) here h in
    record {
      parts = all.0;
      left = subst (λ n. InOrderWithin n (suc k) (half false k es)) (sym below) all.1;
      right = subst (λ n. InOrderWithin n (suc k) (half true k es)) (sym below) all.2;
    }
