-- The greatest epoch that a quorum of marks reaches.
use Rattle.std.proofs.Common.{◌≡◌, ℕ, zero, suc, ◌+◌, ◌<◌, ◌≤◌, List, [], ◌∷◌, Bool, true, false, ◌&&◌, length, Some, sym, ap, subst, ◌∙◌, ◌⊎◌, inl, inr, ⊎_elim, arith, get_or, drop, map, set, take, nat_le}
use Rattle.std.specs.List.{slice_get, count_by, zip}
use Rattle.std.proofs.lemmas.Option.{slice_get_within, slice_get-get_or, same_Some}
use Rattle.std.proofs.lemmas.Bool.{cases_Bool, cases_lt, leb-true, le-leb, lt-leb, and_from, and_left, and_right}
use Rattle.coniks_quorum.specs.Marks.{IsBetter, IsGreatest, reaching}
use Rattle.coniks_quorum.specs.Laws.{SharedLaw, shared}
use Rattle.coniks_quorum.proofs.CountLemmas.{Least, count-most, count-no, count-none, count-wider, count-yes, least}

-- one element more is written
pub fill-more : {X : Type 0} (f : X → ℕ) (marks : List ℕ) (xs : List X) (i v : ℕ) (d : X) → i < length marks → i < length xs → v ≡ f (get_or xs i d)
    → take i marks ≡ map f (take i xs) → take (suc i) (set marks i v) ≡ map f (take (suc i) xs)
fill-more f [] xs i v d less more is before = absurd (omega arith)
fill-more f (m ∷ marks) [] i v d less more is before = absurd (omega arith)
fill-more f (m ∷ marks) (x ∷ xs) zero v d less more is before = ap (λ (y : ℕ). y ∷ []) is
fill-more f (m ∷ marks) (x ∷ xs) (suc i) v d less more is before =
    let first : m ≡ f x = ap (λ (l : List ℕ). get_or l 0 0) before in
    let rest : take i marks ≡ map f (take i xs) = ap (λ (l : List ℕ). drop 1 l) before in
    ap (λ (y : ℕ). y ∷ take (suc i) (set marks i v)) first ∙ ap (λ (l : List ℕ). f x ∷ l) (fill-more f marks xs i v d (omega arith) (omega arith) is rest)

module _ (marks : List ℕ) (quorum : ℕ) where
  -- each of the first n marks is at most the best one, or is not reached by a quorum
  abbrev pub Passed : ℕ → ℕ → Type 0
  Passed best n = (k m : ℕ) → k < n → slice_get marks k ≡ Some m → (m ≤ best) ⊎ (reaching marks m < quorum)

  pub passed-more : (best new n d : ℕ) → best ≤ new → n < length marks → (get_or marks n d ≤ new) ⊎ (reaching marks (get_or marks n d) < quorum)
      → Passed best n → Passed new (n + 1)
  passed-more best new n d le within here before = λ k m less at. ⊎_elim
      (λ (below : k < n). ⊎_elim (λ (small : m ≤ best). inl (omega arith)) (λ (few : reaching marks m < quorum). inr few) (before k m below at))
      (λ (ge : n ≤ k).
      let place : k ≡ n = omega arith in
      let same : get_or marks n d ≡ m = same_Some (get_or marks n d) m (sym (slice_get-get_or marks n d within) ∙ ap (slice_get marks) (sym place) ∙ at) in
      subst (λ (x : ℕ). (x ≤ new) ⊎ (reaching marks x < quorum)) same here)
      (cases_lt k n)

  -- then no later epoch is reached by a quorum
  pub none_later : (best n : ℕ) → 0 < quorum → length marks ≤ n → Passed best n → (e : ℕ) → best < e → reaching marks e < quorum
  none_later best n some all passed e later = ⊎_elim
      (λ (below : (k : ℕ) (x : ℕ) → slice_get marks k ≡ Some x → x < e).
      let none = count-none (λ (m : ℕ). nat_le e m) marks (λ k x at. lt-leb e x (below k x at)) in
      omega arith)
      (λ (found : Least marks e).
      let reaches = found.reaches in
      let within = slice_get_within marks found.place found.mark found.there in
      let wider : reaching marks e ≤ reaching marks found.mark = count-wider (λ (m : ℕ). nat_le e m) (λ (m : ℕ). nat_le found.mark m) marks
      (λ k x at is. le-leb found.mark x (found.least k x at (leb-true e x is))) in
      ⊎_elim (λ (small : found.mark ≤ best). absurd (omega arith)) (λ (few : reaching marks found.mark < quorum). omega arith)
      (passed found.place found.mark (omega arith) found.there))
      (least marks e)

-- two lists share what they have more than places
shared_least : (xs ys : List Bool) → length xs ≡ length ys → count_by (λ x. x) xs + count_by (λ y. y) ys ≤ length xs + shared xs ys
shared_least [] [] size = omega arith
shared_least [] (y ∷ ys) size = absurd (omega arith)
shared_least (x ∷ xs) [] size = absurd (omega arith)
shared_least (x ∷ xs) (y ∷ ys) size =
    let rest = shared_least xs ys (omega arith) in
    let most_x = count-most (λ (b : Bool). b) x xs in
    let most_y = count-most (λ (b : Bool). b) y ys in
    ⊎_elim
    (λ (is_x : x ≡ true). ⊎_elim
    (λ (is_y : y ≡ true).
    let both = count-yes (λ (p : Bool × Bool). p.0 && p.1) (x, y) (zip xs ys) (and_from x y is_x is_y) in
    omega arith)
    (λ (no_y : y ≡ false).
    let few = count-no (λ (b : Bool). b) y ys no_y in
    let none = count-no (λ (p : Bool × Bool). p.0 && p.1) (x, y) (zip xs ys) (and_right x y no_y) in
    omega arith)
    (cases_Bool y))
    (λ (no_x : x ≡ false).
    let few = count-no (λ (b : Bool). b) x xs no_x in
    let none = count-no (λ (p : Bool × Bool). p.0 && p.1) (x, y) (zip xs ys) (and_left x y no_x) in
    omega arith)
    (cases_Bool x)

pub share : SharedLaw
share n f quorum xs ys enough size_x size_y many_x many_y =
    let shares = shared_least xs ys (omega arith) in
    omega arith

-- a loop's step
pub best-more : (marks : List ℕ) (quorum best new : ℕ) (mark : ℕ) → IsBetter marks quorum best mark new → (best ≡ 0) ⊎ (quorum ≤ reaching marks best)
    → (new ≡ 0) ⊎ (quorum ≤ reaching marks new)
best-more marks quorum best new mark is before = ⊎_elim
    (λ (same : new ≡ best). subst (λ (x : ℕ). (x ≡ 0) ⊎ (quorum ≤ reaching marks x)) (sym same) before)
    (λ (enough : quorum ≤ reaching marks new). inr enough)
    is.enough

-- the best one is the greatest
pub greatest : (marks : List ℕ) (quorum best n : ℕ) → 0 < quorum → length marks ≤ n → Passed marks quorum best n → 0 < best
    → (best ≡ 0) ⊎ (quorum ≤ reaching marks best) → IsGreatest marks quorum best
greatest marks quorum best n some all passed above is = record {
  above = above;
  enough = ⊎_elim (λ (none : best ≡ 0). absurd (omega arith)) (λ (enough : quorum ≤ reaching marks best). enough) is;
  none_later = none_later marks quorum best n some all passed;
}
