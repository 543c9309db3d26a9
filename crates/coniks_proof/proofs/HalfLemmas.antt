-- The two halves of the entries under a prefix.
use Rattle.std.proofs.Common.{◌≡◌, ℕ, ◌+◌, List, [], ◌∷◌, length, Bool, true, false, refl, ap, not, cond}
use Rattle.std.specs.List.{filter}
use Rattle.std.proofs.lemmas.List.Filters.{length-filter_both}
use Rattle.coniks_proof.specs.Bits.{bit_at, turns}
use Rattle.coniks_proof.specs.Entries.{Entry, half}

-- each entry is in one of the halves
pub length-halves : {B : Type 0} (k : ℕ) (es : List (Entry B)) → length (half true k es) + length (half false k es) ≡ length es
length-halves k es = length-filter_both (λ e. turns true k e.index) (λ e. turns false k e.index) (λ _. refl) es

filter_rest : {B : Type 0} (f : Entry B → Bool) (es : List (Entry B)) → filter f es ≡ [] → filter (λ e. not (f e)) es ≡ es
filter_rest f [] none = refl
filter_rest f (e ∷ es) none = elim (f e) as (λ b. cond b (e ∷ filter f es) (filter f es) ≡ [] → cond (not b) (e ∷ filter (λ x. not (f x)) es) (filter (λ x. not (f x)) es) ≡ e ∷ es) [
  | true ↦ λ n. cc
  | false ↦ λ n. ap (λ xs. e ∷ xs) (filter_rest f es n)
] none

filter_rest_not : {B : Type 0} (f : Entry B → Bool) (es : List (Entry B)) → filter (λ e. not (f e)) es ≡ [] → filter f es ≡ es
filter_rest_not f [] none = refl
filter_rest_not f (e ∷ es) none = elim (f e) as (λ b. cond (not b) (e ∷ filter (λ x. not (f x)) es) (filter (λ x. not (f x)) es) ≡ [] → cond b (e ∷ filter f es) (filter f es) ≡ e ∷ es) [
  | true ↦ λ n. ap (λ xs. e ∷ xs) (filter_rest_not f es n)
  | false ↦ λ n. cc
] none

-- where one half is empty, the other is all
pub all_right : {B : Type 0} (k : ℕ) (es : List (Entry B)) → half false k es ≡ [] → half true k es ≡ es
all_right k es none = filter_rest_not (λ e. bit_at e.index k) es none

pub all_left : {B : Type 0} (k : ℕ) (es : List (Entry B)) → half true k es ≡ [] → half false k es ≡ es
all_left k es none = filter_rest (λ e. bit_at e.index k) es none
