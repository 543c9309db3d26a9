-- Blocks, one after the other, and lists that go on.
use Rattle.std.proofs.Common.{◌≡◌, ℕ, zero, suc, ◌+◌, ◌-◌, ◌*◌, ◌<◌, slice_index, List, [], ◌∷◌, ◌++◌, length, sym, refl, ap, ◌∙◌, arith, append_assoc, append-nil, length-append, Some}
use Rattle.std.proofs.lemmas.List.{get_or_append_left, get_or-append-add}
use Rattle.coniks_threads.specs.Blocks.{flat, AllFive}
use Rattle.coniks_threads.specs.Lists.{Begins, last_of}

-- five words a block
pub flat_length : (bs : List (List ℕ)) → AllFive bs → length (flat bs) ≡ 5 * length bs
flat_length [] f = refl
flat_length (b ∷ bs) f = let h = flat_length bs f.1 in let e = f.0 in omega (arith, length-append b (flat bs))

-- the words of two lists of blocks
pub flat_append : (es bs : List (List ℕ)) → flat (es ++ bs) ≡ flat es ++ flat bs
flat_append [] bs = refl
flat_append (a ∷ es) bs = ap (λ (l : List ℕ). a ++ l) (flat_append es bs) ∙ sym (append_assoc a (flat es) (flat bs))

-- the words of one more block
pub flat_snoc : (bs : List (List ℕ)) (b : List ℕ) → flat (bs ++ b ∷ []) ≡ flat bs ++ b
flat_snoc bs b = flat_append bs (b ∷ []) ∙ ap (λ (l : List ℕ). flat bs ++ l) (append-nil b)

-- one more block of five words
pub fives_snoc : (bs : List (List ℕ)) (b : List ℕ) → AllFive bs → length b ≡ 5 → AllFive (bs ++ b ∷ [])
fives_snoc [] b f e = (e, tt)
fives_snoc (c ∷ cs) b f e = (f.0, fives_snoc cs b f.1 e)

-- a list begins itself
pub begins_self : (bs : List (List ℕ)) → Begins bs bs
begins_self bs = ([], sym (append-nil bs))

-- what begins a list begins a longer one
pub begins_more : (es bs : List (List ℕ)) (b : List ℕ) → Begins es bs → Begins es (bs ++ b ∷ [])
begins_more es bs b h = (h.0 ++ b ∷ [], ap (λ (l : List (List ℕ)). l ++ b ∷ []) h.1 ∙ append_assoc es h.0 (b ∷ []))

-- the empty list begins any
pub begins_none : (bs : List (List ℕ)) → Begins [] bs
begins_none bs = (bs, refl)

-- the words of what was seen stand in the words of all blocks
pub read_seen : (es bs : List (List ℕ)) (tail : List ℕ) (k : ℕ) → Begins es bs → k < length (flat es) → slice_index (flat bs ++ tail) k ≡ slice_index (flat es) k
read_seen es bs tail k h less =
    let e : flat bs ++ tail ≡ flat es ++ (flat h.0 ++ tail) = ap (λ (l : List (List ℕ)). flat l ++ tail)
    h.1 ∙ ap (λ (l : List ℕ). l ++ tail) (flat_append es h.0) ∙ append_assoc (flat es) (flat h.0) tail in
    ap (λ (l : List ℕ). slice_index l k) e ∙ get_or_append_left (flat es) (flat h.0 ++ tail) 0 k less

-- five elements are their list
five_is : (b : List ℕ) → length b ≡ 5 → slice_index b 0 ∷ slice_index b 1 ∷ slice_index b 2 ∷ slice_index b 3 ∷ slice_index b 4 ∷ [] ≡ b
five_is [] e = absurd (omega arith)
five_is (x0 ∷ []) e = absurd (omega arith)
five_is (x0 ∷ x1 ∷ []) e = absurd (omega arith)
five_is (x0 ∷ x1 ∷ x2 ∷ []) e = absurd (omega arith)
five_is (x0 ∷ x1 ∷ x2 ∷ x3 ∷ []) e = absurd (omega arith)
five_is (x0 ∷ x1 ∷ x2 ∷ x3 ∷ x4 ∷ []) e = refl
five_is (x0 ∷ x1 ∷ x2 ∷ x3 ∷ x4 ∷ x5 ∷ xs) e = absurd (omega arith)

-- an element behind the first block
further : (b : List ℕ) (tail : List ℕ) (k j : ℕ) → length b ≡ 5 → j ≡ 5 + k → slice_index (b ++ tail) j ≡ slice_index tail k
further b tail k j e is = ap (λ (n : ℕ). slice_index (b ++ tail) n) (is ∙ ap (λ (n : ℕ). n + k) (sym e)) ∙ get_or-append-add b tail k 0

-- the five words read at the end of what was seen are its last block
pub reads_last : (bs : List (List ℕ)) (n at : ℕ) → AllFive bs → length bs ≡ suc n → at ≡ 5 * n
    → Some (slice_index (flat bs) at ∷ slice_index (flat bs) (at + 1) ∷ slice_index (flat bs) (at + 2) ∷ slice_index (flat bs) (at + 3) ∷ slice_index (flat bs) (at + 4) ∷ []) ≡ last_of bs
reads_last [] n at f e is = absurd (omega arith)
reads_last (b ∷ []) n at f e is =
    let z : at ≡ 0 = omega arith in
    ap (λ (k : ℕ). Some (slice_index (b ++ []) k ∷ slice_index (b ++ []) (k + 1) ∷ slice_index (b ++ []) (k + 2) ∷ slice_index (b ++ []) (k + 3) ∷ slice_index (b ++ []) (k + 4) ∷ [])) z
    ∙ ap (λ (l : List ℕ). Some (slice_index l 0 ∷ slice_index l 1 ∷ slice_index l 2 ∷ slice_index l 3 ∷ slice_index l 4 ∷ [])) (append-nil b)
    ∙ ap (λ (l : List ℕ). Some l) (five_is b f.0)
reads_last (b ∷ c ∷ cs) zero at f e is = absurd (omega arith)
reads_last (b ∷ c ∷ cs) (suc n) at f e is =
    let F : List ℕ = flat (c ∷ cs) in
    let m : ℕ = 5 * n in
    let q0 = further b F m at f.0 (omega arith) in
    let q1 = further b F (m + 1) (at + 1) f.0 (omega arith) in
    let q2 = further b F (m + 2) (at + 2) f.0 (omega arith) in
    let q3 = further b F (m + 3) (at + 3) f.0 (omega arith) in
    let q4 = further b F (m + 4) (at + 4) f.0 (omega arith) in
    (λ i. Some (q0 i ∷ q1 i ∷ q2 i ∷ q3 i ∷ q4 i ∷ [])) ∙ reads_last (c ∷ cs) n m f.1 (omega arith) refl

-- the same, where each word was read in turn
pub five_read : (bs b1 b2 b3 b4 : List (List ℕ)) (n k0 k1 k2 k3 k4 x0 x1 x2 x3 x4 : ℕ) → AllFive bs → length bs ≡ n → 0 < n
    → k0 ≡ 5 * (n - 1) → k1 ≡ 5 * (n - 1) + 1 → k2 ≡ 5 * (n - 1) + 2 → k3 ≡ 5 * (n - 1) + 3 → k4 ≡ 5 * (n - 1) + 4
    → x0 ≡ slice_index (flat bs) k0 → b1 ≡ bs → x1 ≡ slice_index (flat b1) k1 → b2 ≡ b1
    → x2 ≡ slice_index (flat b2) k2 → b3 ≡ b2 → x3 ≡ slice_index (flat b3) k3 → b4 ≡ b3 → x4 ≡ slice_index (flat b4) k4
    → Some (x0 ∷ x1 ∷ x2 ∷ x3 ∷ x4 ∷ []) ≡ last_of bs
five_read bs b1 b2 b3 b4 n k0 k1 k2 k3 k4 x0 x1 x2 x3 x4 f e some_n e0 e1 e2 e3 e4 r0 s1 r1 s2 r2 s3 r3 s4 r4 =
    let m : ℕ = 5 * (n - 1) in
    let t2 = s2 ∙ s1 in let t3 = s3 ∙ t2 in let t4 = s4 ∙ t3 in
    let q0 : x0 ≡ slice_index (flat bs) m = r0 ∙ ap (slice_index (flat bs)) e0 in
    let q1 : x1 ≡ slice_index (flat bs) (m + 1) = r1 ∙ (λ i. slice_index (flat (s1 i)) (e1 i)) in
    let q2 : x2 ≡ slice_index (flat bs) (m + 2) = r2 ∙ (λ i. slice_index (flat (t2 i)) (e2 i)) in
    let q3 : x3 ≡ slice_index (flat bs) (m + 3) = r3 ∙ (λ i. slice_index (flat (t3 i)) (e3 i)) in
    let q4 : x4 ≡ slice_index (flat bs) (m + 4) = r4 ∙ (λ i. slice_index (flat (t4 i)) (e4 i)) in
    (λ i. Some (q0 i ∷ q1 i ∷ q2 i ∷ q3 i ∷ q4 i ∷ [])) ∙ reads_last bs (n - 1) m f (omega arith) refl
