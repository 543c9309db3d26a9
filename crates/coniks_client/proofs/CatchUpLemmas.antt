-- The entries of a catch-up.
use Rattle.std.proofs.Common.{◌≡◌, ℕ, zero, suc, ◌+◌, ◌*◌, ◌<◌, List, [], ◌∷◌, drop, take, Some, refl, sym, ap, ◌∙◌, arith}
use Rattle.std.specs.List.{slice_get}
use Rattle.std.specs.Simd.{first_chunks}
use Rattle.std.proofs.Math.Seq.{drop-nil}
use Rattle.coniks_client.specs.CatchUps.{entry_part}

drop-more : (n m : ℕ) (xs : List ℕ) → drop n (drop m xs) ≡ drop (m + n) xs
drop-more n zero xs = let e : n ≡ 0 + n = omega arith in ap (λ (k : ℕ). drop k xs) e
drop-more n (suc m) [] = drop-nil n ∙ sym (drop-nil (suc m + n))
drop-more n (suc m) (x ∷ xs) = let e : suc (m + n) ≡ suc m + n = omega arith in drop-more n m xs ∙ ap (λ (k : ℕ). drop k (x ∷ xs)) e

chunk-at : (n : ℕ) (bytes : List ℕ) (k : ℕ) → k < n → slice_get (first_chunks 209 n bytes) k ≡ Some (entry_part k bytes)
chunk-at zero bytes k less = absurd (omega arith)
chunk-at (suc n) bytes zero less = refl
chunk-at (suc n) bytes (suc k) less =
    let there : 209 + k * 209 ≡ suc k * 209 = omega arith in
    chunk-at n (drop 209 bytes) k (omega arith) ∙ ap (λ (xs : List ℕ). Some (take 209 xs)) (drop-more (k * 209) 209 bytes ∙ ap (λ (j : ℕ). drop j bytes) there)

pub entry-at : (entries : List (List ℕ)) (n : ℕ) (bytes : List ℕ) → entries ≡ first_chunks 209 n bytes → (k : ℕ) → k < n → slice_get entries k ≡ Some (entry_part k bytes)
entry-at entries n bytes is k less = ap (λ (xs : List (List ℕ)). slice_get xs k) is ∙ chunk-at n bytes k less
