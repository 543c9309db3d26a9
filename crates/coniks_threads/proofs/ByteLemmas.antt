-- Eight bytes and a word.
use Rattle.std.proofs.Common.{◌≡◌, ℕ, zero, suc, ◌+◌, ◌-◌, ◌<◌, ◌≤◌, get_or, slice_index, List, [], ◌∷◌, ◌++◌, length, take, drop, sym, refl, ap, ◌∙◌, arith}
use Rattle.std.specs.Int.{w64, to_be_bytes}
use Rattle.std.proofs.lemmas.Nat.{be_bytes_8}
use Rattle.std.proofs.lemmas.List.{take-append-drop, length-drop}
use Rattle.coniks_threads.specs.HeadWords.{word_at, link_of}

-- eight elements, and more, are their list
pub eight_is : (b : List ℕ) (tail : List ℕ) → length b ≡ 8
    → slice_index b 0 ∷ slice_index b 1 ∷ slice_index b 2 ∷ slice_index b 3 ∷ slice_index b 4 ∷ slice_index b 5 ∷ slice_index b 6 ∷ slice_index b 7 ∷ tail ≡ b ++ tail
eight_is [] t e = absurd (omega arith)
eight_is (x0 ∷ []) t e = absurd (omega arith)
eight_is (x0 ∷ x1 ∷ []) t e = absurd (omega arith)
eight_is (x0 ∷ x1 ∷ x2 ∷ []) t e = absurd (omega arith)
eight_is (x0 ∷ x1 ∷ x2 ∷ x3 ∷ []) t e = absurd (omega arith)
eight_is (x0 ∷ x1 ∷ x2 ∷ x3 ∷ x4 ∷ []) t e = absurd (omega arith)
eight_is (x0 ∷ x1 ∷ x2 ∷ x3 ∷ x4 ∷ x5 ∷ []) t e = absurd (omega arith)
eight_is (x0 ∷ x1 ∷ x2 ∷ x3 ∷ x4 ∷ x5 ∷ x6 ∷ []) t e = absurd (omega arith)
eight_is (x0 ∷ x1 ∷ x2 ∷ x3 ∷ x4 ∷ x5 ∷ x6 ∷ x7 ∷ []) t e = refl
eight_is (x0 ∷ x1 ∷ x2 ∷ x3 ∷ x4 ∷ x5 ∷ x6 ∷ x7 ∷ x8 ∷ xs) t e = absurd (omega arith)

-- bytes that were taken are bytes
take_bytes : (n : ℕ) (bs : List ℕ) → ((i : ℕ) → get_or bs i 0 < 256) → (i : ℕ) → get_or (take n bs) i 0 < 256
take_bytes zero bs b i = lit_small
  where
    lit_small : get_or {A = ℕ} [] i 0 < 256
    lit_small = go i
      where
        go : (i : ℕ) → get_or {A = ℕ} [] i 0 < 256
        go zero = omega arith
        go (suc i) = omega arith
take_bytes (suc n) [] b i = b i
take_bytes (suc n) (x ∷ xs) b zero = b zero
take_bytes (suc n) (x ∷ xs) b (suc i) = take_bytes n xs (λ k. b (suc k)) i

-- bytes that are left are bytes
drop_bytes : (n : ℕ) (bs : List ℕ) → ((i : ℕ) → get_or bs i 0 < 256) → (i : ℕ) → get_or (drop n bs) i 0 < 256
drop_bytes zero bs b i = b i
drop_bytes (suc n) [] b i = b i
drop_bytes (suc n) (x ∷ xs) b i = drop_bytes n xs (λ k. b (suc k)) i

-- as many as were taken
take_length : (n : ℕ) (bs : List ℕ) → n ≤ length bs → length (take n bs) ≡ n
take_length zero bs le = refl
take_length (suc n) [] le = absurd (omega arith)
take_length (suc n) (x ∷ xs) le = ap suc (take_length n xs (omega arith))

-- a word gives its eight bytes back
back_at : (link : List ℕ) (at : ℕ) → length link ≡ 32 → at + 8 ≤ 32 → ((i : ℕ) → get_or link i 0 < 256) → to_be_bytes w64 (word_at link at) ≡ take 8 (drop at link)
back_at link at e le b = be_bytes_8 (take 8 (drop at link)) (word_at link at)
    (take_length 8 (drop at link) (omega (arith, length-drop at link))) (take_bytes 8 (drop at link) (drop_bytes at link b)) refl

-- two drops are one
drop_drop : (n m : ℕ) (bs : List ℕ) → drop n (drop m bs) ≡ drop (m + n) bs
drop_drop n zero bs = ap (λ (k : ℕ). drop k bs) (let e : n ≡ 0 + n = omega arith in e)
drop_drop n (suc m) [] = none n ∙ sym (none (suc m + n))
  where
    none : (k : ℕ) → drop {A = ℕ} k [] ≡ []
    none zero = refl
    none (suc k) = refl
drop_drop n (suc m) (x ∷ xs) = drop_drop n m xs ∙ ap (λ (k : ℕ). drop k (x ∷ xs)) (let e : suc (m + n) ≡ suc m + n = omega arith in e)

-- nothing is left behind the end
drop_none : (bs : List ℕ) (n : ℕ) → length bs ≤ n → drop n bs ≡ []
drop_none [] zero le = refl
drop_none [] (suc n) le = refl
drop_none (x ∷ xs) zero le = absurd (omega arith)
drop_none (x ∷ xs) (suc n) le = drop_none xs n (omega arith)

-- a link is its four words
pub link_back : (link : List ℕ) (epoch : ℕ) → length link ≡ 32 → ((i : ℕ) → get_or link i 0 < 256) → link_of (epoch ∷ word_at link 0 ∷ word_at link 8 ∷ word_at link 16 ∷ word_at link 24 ∷ []) ≡ link
link_back link epoch e b =
    let q0 = back_at link 0 e (omega arith) b in
    let q1 = back_at link 8 e (omega arith) b in
    let q2 = back_at link 16 e (omega arith) b in
    let q3 = back_at link 24 e (omega arith) b in
    let last : take 8 (drop 24 link) ≡ drop 24 link = sym
    (ap (λ (l : List ℕ). take 8 (drop 24 link) ++ l) (drop_drop 8 24 link ∙ drop_none link 32 (omega arith)) ∙ Rattle.std.proofs.Common.append-nil (take 8 (drop 24 link)))
    ∙ take-append-drop 8 (drop 24 link) in
    (λ i. q0 i ++ (q1 i ++ (q2 i ++ q3 i)))
    ∙ ap (λ (l : List ℕ). take 8 link ++ (take 8 (drop 8 link) ++ (take 8 (drop 16 link) ++ l))) (last ∙ sym (drop_drop 8 16 link))
    ∙ ap (λ (l : List ℕ). take 8 link ++ (take 8 (drop 8 link) ++ l)) (take-append-drop 8 (drop 16 link) ∙ sym (drop_drop 8 8 link))
    ∙ ap (λ (l : List ℕ). take 8 link ++ l) (take-append-drop 8 (drop 8 link))
    ∙ take-append-drop 8 link
