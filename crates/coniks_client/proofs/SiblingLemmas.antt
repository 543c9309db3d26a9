-- One place of a step more.
use Rattle.std.proofs.Common.{◌≡◌, ℕ, zero, suc, ◌+◌, ◌<◌, ◌≤◌, List, [], ◌∷◌, true, false, take, Some, None, refl, sym, ap, ◌∙◌, ⊎_elim, arith}
use Rattle.std.specs.List.{slice_get}
use Rattle.std.proofs.lemmas.Bool.{cases_lt}
use Rattle.coniks_proof.specs.Bits.{bit_at}
use Rattle.coniks_client.specs.SiblingMaps.{rank}
use Rattle.coniks_client.specs.Siblings.{AreNew, AreUnpacked, IsPut}

-- the first elements of a list
pub get-take : {A : Type 0} (n : ℕ) (xs : List A) (k : ℕ) → k < n → slice_get (take n xs) k ≡ slice_get xs k
get-take zero xs k less = absurd (omega arith)
get-take (suc n) [] k less = refl
get-take (suc n) (x ∷ xs) zero less = refl
get-take (suc n) (x ∷ xs) (suc k) less = get-take n xs k (omega arith)

pub get-past : {A : Type 0} (n : ℕ) (xs : List A) (k : ℕ) → n ≤ k → slice_get (take n xs) k ≡ None
get-past zero xs k past = refl
get-past (suc n) [] k past = refl
get-past (suc n) (x ∷ xs) zero past = absurd (omega arith)
get-past (suc n) (x ∷ xs) (suc k) past = get-past n xs k (omega arith)

module _ (map : List ℕ) (n : ℕ) (sent old now : List (List ℕ)) (before : AreUnpacked map n sent old now) where
  pub unpacked-yes : (new : List (List ℕ)) (value : List ℕ) → bit_at map n ≡ true → slice_get sent (rank map n) ≡ Some value → IsPut now new n value
      → AreUnpacked map (n + 1) sent old new
  unpacked-yes new value set at put = record {
    sent_one = λ i less is. ⊎_elim
        (λ (below : i < n). put.others i (λ (e : i ≡ n). omega arith) ∙ before.sent_one i below is)
        (λ (le : n ≤ i). let e : i ≡ n = omega arith in ap (slice_get new) e ∙ put.here ∙ sym (ap (λ (k : ℕ). slice_get sent (rank map k)) e ∙ at))
        (cases_lt i n);
    same_one = λ i less not. ⊎_elim
        (λ (below : i < n). put.others i (λ (e : i ≡ n). omega arith) ∙ before.same_one i below not)
        (λ (le : n ≤ i). let e : i ≡ n = omega arith in let here : bit_at map i ≡ true = ap (bit_at map) e ∙ set in absurd (cc))
        (cases_lt i n);
    rest = λ i past. put.others i (λ (e : i ≡ n). past (omega arith)) ∙ before.rest i (λ (less : i < n). past (omega arith));
  }

  pub unpacked-no : bit_at map n ≡ false → AreUnpacked map (n + 1) sent old now
  unpacked-no unset = record {
    sent_one = λ i less is. ⊎_elim
        (λ (below : i < n). before.sent_one i below is)
        (λ (le : n ≤ i). let e : i ≡ n = omega arith in let here : bit_at map i ≡ false = ap (bit_at map) e ∙ unset in absurd (cc))
        (cases_lt i n);
    same_one = λ i less not. ⊎_elim
        (λ (below : i < n). before.same_one i below not)
        (λ (le : n ≤ i). before.rest i (λ (less : i < n). omega arith))
        (cases_lt i n);
    rest = λ i past. before.rest i (λ (less : i < n). past (omega arith));
  }

module _ (past : List (List ℕ)) (map : List ℕ) (n : ℕ) (sent : List (List ℕ)) (before : AreNew past map n sent) where
  pub new-yes : (value : List ℕ) → slice_get sent (rank map n) ≡ Some value → ¬ (slice_get past n ≡ Some value) → AreNew past map (n + 1) sent
  new-yes value at other = λ k less set. ⊎_elim
      (λ (below : k < n). before k below set)
      (λ (le : n ≤ k).
      let e : k ≡ n = omega arith in
      λ (same : slice_get past k ≡ slice_get sent (rank map k)).
      other (ap (slice_get past) (sym e) ∙ same ∙ ap (λ (j : ℕ). slice_get sent (rank map j)) e ∙ at))
      (cases_lt k n)

  pub new-no : bit_at map n ≡ false → AreNew past map (n + 1) sent
  new-no unset = λ k less set. ⊎_elim
      (λ (below : k < n). before k below set)
      (λ (le : n ≤ k). let e : k ≡ n = omega arith in let here : bit_at map k ≡ false = ap (bit_at map) e ∙ unset in absurd (cc))
      (cases_lt k n)
