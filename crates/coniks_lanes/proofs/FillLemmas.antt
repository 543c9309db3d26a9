-- A list that a loop fills from its front.
use Rattle.std.proofs.Common.{◌≡◌, ℕ, ◌+◌, ◌<◌, List, length, slice_index_or, slice_set, inl, inr, subst, ◌∙◌, arith}
use Rattle.std.proofs.lemmas.Bool.{cases_lt}
use Rattle.std.proofs.lemmas.List.{get_or-set_same, get_or-set_other}

-- with its first n elements and the next, the list has its first n + 1
pub one_more_set : {X : Type 0} (xs : List X) (f : ℕ → X) (n : ℕ) (x d : X) → n < length xs → ((k : ℕ) → k < n → slice_index_or xs k d ≡ f k)
    → x ≡ f n → (k : ℕ) → k < n + 1 → slice_index_or (slice_set xs n x) k d ≡ f k
one_more_set xs f n x d within filled next k lt = elim (cases_lt k n) [
  | inl before ↦ get_or-set_other xs n k x d (omega arith) ∙ filled k before
  | inr last ↦
      let e : n ≡ k = omega arith in
      subst (λ (i : ℕ). slice_index_or (slice_set xs n x) i d ≡ f i) e (get_or-set_same xs n x d within ∙ next)
]
