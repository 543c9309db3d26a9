-- Numbered parts, and their places.
use Rattle.std.proofs.Common.{◌≡◌, ◌≢◌, ◌⊎◌, inl, inr, ⊎_elim, ℕ, zero, suc, ◌+◌, ◌<◌, eqb, if◌then◌else◌, Bool, true, false, List, [], ◌∷◌, ◌++◌, length, get_or, slice_index_or, sym, refl, ap, ◌∙◌, subst, arith, Option, Some, None, set}
use Rattle.std.proofs.lemmas.List.{get_or-set_same, get_or-set_other}
use Rattle.std.proofs.lemmas.Bool.Decides.{nat_tests}
use mathlib.Core.Logic.{dite}
use native.Mathlib.Decide.{ℕ_discrete}
use Rattle.coniks_threads.specs.Draws.{times}
use Rattle.coniks_threads.proofs.Lemmas.{times_append}
use Rattle.coniks_tree.specs.declared.part.Part.{Part}
use Rattle.coniks_threads.specs.Places.{numbers, AreParts, AllFrom, StandsAt, Places}

pub numbers_snoc : (ps : List (ℕ × Part)) (p : ℕ × Part) → numbers (ps ++ p ∷ []) ≡ numbers ps ++ p.0 ∷ []
numbers_snoc [] p = refl
numbers_snoc (q ∷ qs) p = ap (λ (l : List ℕ). q.0 ∷ l) (numbers_snoc qs p)

times_of_one : (k j : ℕ) → 0 < times k (j ∷ []) → k ≡ j
times_of_one k j = go (eqb j k) refl
  where
    go : (b : Bool) → eqb j k ≡ b → 0 < (if b then 1 else 0) + 0 → k ≡ j
    go true e h = grind (arith, nat_tests)
    go false e h = absurd (omega arith)

module _ (part : ℕ → Part → Type 0) where
  pub parts_snoc : (n : ℕ) (ps : List (ℕ × Part)) (p : ℕ × Part) → AreParts part n ps → p.0 < n → part p.0 p.1 → AreParts part n (ps ++ p ∷ [])
  parts_snoc n [] p h less is = (less, is, tt)
  parts_snoc n (q ∷ qs) p h less is = (h.0, h.1, parts_snoc n qs p h.2 less is)

  pub parts_front : (n : ℕ) (ps : List (ℕ × Part)) (p : ℕ × Part) → AreParts part n (ps ++ p ∷ []) → AreParts part n ps × (p.0 < n) × part p.0 p.1
  parts_front n [] p h = (tt, h.0, h.1)
  parts_front n (q ∷ qs) p h = let r = parts_front n qs p h.2 in ((h.0, h.1, r.0), r.1, r.2)

  pub all_snoc : (k n : ℕ) (xs : List Part) (x : Part) → AllFrom part k xs → n ≡ k + length xs → part n x → AllFrom part k (xs ++ x ∷ [])
  all_snoc k n [] x h e is = (subst (λ (j : ℕ). part j x) (omega arith) is, tt)
  all_snoc k n (y ∷ ys) x h e is = (h.0, all_snoc (suc k) n ys x h.1 (omega arith) is)

  stands_set : (cur : List (Option Part)) (j k : ℕ) (x : Part) → j < length cur → part j x → StandsAt part cur k ⊎ (k ≡ j) → StandsAt part (set cur j (Some x)) k
  stands_set cur j k x less is h = dite (ℕ_discrete k j)
      (λ (e : k ≡ j). (x, (λ i. slice_index_or (set cur j (Some x)) (e i) None) ∙ get_or-set_same cur j (Some x) None less, subst (λ (i : ℕ). part i x) (sym e) is))
      (λ (n : k ≢ j). ⊎_elim (λ (s : StandsAt part cur k). (s.0, get_or-set_other cur j k (Some x) None n ∙ s.1, s.2)) (λ (e : k ≡ j). absurd (n e)) h)

  -- one more part is put into its place
  pub place_next : (old cur : List (Option Part)) (ns before left : List ℕ) (j : ℕ) (x : Part) → before ≡ left ++ j ∷ []
      → Places part old cur ns before → j < length cur → part j x → Places part old (set cur j (Some x)) ns left
  place_next old cur ns before left j x e h less is = record {
    retained = λ k s. stands_set cur j k x less is (inl (h.retained k s));
    put = λ k some_time. ⊎_elim (λ (s : StandsAt part cur k). inl (stands_set cur j k x less is (inl s)))
        (λ (t : 0 < times k before). dite (ℕ_discrete k j) (λ (same : k ≡ j). inl (stands_set cur j k x less is (inr same)))
        (λ (n : k ≢ j). inr (at_least k n (subst (λ (l : List ℕ). 0 < times k l) e t))))
        (h.put k some_time);
  }
    where
      at_least : (k : ℕ) → k ≢ j → 0 < times k (left ++ j ∷ []) → 0 < times k left
      at_least k n s = let a = times_append k left (j ∷ []) in dite (ℕ_discrete (times k (j ∷ [])) 0)
          (λ (z : times k (j ∷ []) ≡ 0). omega arith) (λ (z : times k (j ∷ []) ≢ 0). absurd (n (times_of_one k j (omega arith))))

  pub place_none : (old : List (Option Part)) (ns : List ℕ) → Places part old old ns ns
  place_none old ns = record { retained = λ k s. s; put = λ k s. inr s }

  -- a part is still in its place after another place is changed
  pub stand_after : (old : List (Option Part)) (j k : ℕ) (x : Option Part) → k ≢ j → StandsAt part old k → StandsAt part (set old j x) k
  stand_after old j k x n s = (s.0, get_or-set_other old j k x None n ∙ s.1, s.2)

pub same_there : (xs : List (Option Part)) (j : ℕ) (r : Option Part) (x y : Part) → j < length xs → slice_index_or xs j None ≡ Some x → r ≡ get_or xs j r → r ≡ Some y → x ≡ y
same_there [] j r x y less e f h = absurd (omega arith)
same_there (z ∷ zs) zero r x y less e f h = cc
same_there (z ∷ zs) (suc j) r x y less e f h = same_there zs j r x y (omega arith) e f h
