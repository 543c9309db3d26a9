-- Parts of one size, one after another.
use Rattle.std.proofs.Common.{◌≡◌, ◌≤◌, ℕ, zero, suc, ◌+◌, ◌*◌, List, [], ◌∷◌, ◌++◌, length, take, drop, map, refl, sym, ap, ◌∙◌, arith, append_assoc, suc-mul, zero-mul}
use Rattle.std.specs.List.{All, flat_map}
use Rattle.std.specs.Simd.{first_chunks}
use Rattle.std.proofs.lemmas.List.{get_or-drop, length-append, length-drop, length-take-le, take-append-drop}
use Rattle.coniks_quorum.specs.StateCodes.{AreOctets, IsCode}
use Rattle.std.proofs.lemmas.List.Elements.{All-cons, All-head, All-nil, All-tail}

-- ---- bytes

-- the first n of bytes are bytes, and so are the others
pub take-small : (n : ℕ) (xs : List ℕ) → AreOctets xs → AreOctets (take n xs)
take-small zero xs small i = omega arith
take-small (suc n) [] small i = omega arith
take-small (suc n) (x ∷ xs) small zero = small zero
take-small (suc n) (x ∷ xs) small (suc i) = take-small n xs (λ j. small (suc j)) i

pub drop-small : (n : ℕ) (xs : List ℕ) → AreOctets xs → AreOctets (drop n xs)
drop-small n xs small i = omega (arith, get_or-drop n xs i 0, small (n + i))

-- ---- one list in two ways

pub same_tail : (x y : ℕ) (xs ys : List ℕ) → x ∷ xs ≡ y ∷ ys → (x ≡ y) × (xs ≡ ys)
same_tail x y xs ys same = (cc, cc)

-- equal lists whose beginnings have one length
pub split_same : (a b c d : List ℕ) → length a ≡ length b → a ++ c ≡ b ++ d → (a ≡ b) × (c ≡ d)
split_same [] [] c d size same = (refl, same)
split_same [] (y ∷ b) c d size same = absurd (omega arith)
split_same (x ∷ a) [] c d size same = absurd (omega arith)
split_same (x ∷ a) (y ∷ b) c d size same =
    let parts = same_tail x y (a ++ c) (b ++ d) same in
    let rest = split_same a b c d (omega arith) parts.1 in
    (ap (λ z. z ∷ a) parts.0 ∙ ap (λ zs. y ∷ zs) rest.0, rest.1)

-- ---- parts of one size

pub length-first_chunks : (one k : ℕ) (ys : List ℕ) → length (first_chunks one k ys) ≡ k
length-first_chunks one zero ys = refl
length-first_chunks one (suc k) ys = ap (λ j. suc j) (length-first_chunks one k (drop one ys))

none_left : (xs : List ℕ) → length xs ≡ 0 → xs ≡ []
none_left [] e = refl
none_left (x ∷ xs) e = absurd (omega arith)

module _ {X : Type 0} (one_bytes : X → List ℕ) (one_from : List ℕ → X) (IsPart : X → Type 0) (one : ℕ) (code : IsCode one_bytes one_from IsPart one) where
  pub length-all : (xs : List X) → All IsPart xs → length (flat_map one_bytes xs) ≡ length xs * one
  length-all [] sized = sym (zero-mul one)
  length-all (x ∷ xs) sized =
      let first = code.long x (All-head IsPart x xs sized) in let others = length-all xs (All-tail IsPart x xs sized) in
      omega (arith, length-append (one_bytes x) (flat_map one_bytes xs), first, others, suc-mul (length xs) one)

  pub chunks-sized : (n : ℕ) (bytes : List ℕ) → n * one ≤ length bytes → AreOctets bytes → All IsPart (map one_from (first_chunks one n bytes))
  chunks-sized zero bytes long small = All-nil IsPart
  chunks-sized (suc n) bytes long small =
      let size = suc-mul n one in
      All-cons IsPart _ _ (code.is (take one bytes) (length-take-le one bytes (omega (arith, size))) (take-small one bytes small))
      (chunks-sized n (drop one bytes) (omega (arith, size, length-drop one bytes)) (drop-small one bytes small))

  pub chunks-bytes : (n : ℕ) (bytes : List ℕ) → n * one ≡ length bytes → AreOctets bytes → flat_map one_bytes (map one_from (first_chunks one n bytes)) ≡ bytes
  chunks-bytes zero bytes long small = sym (none_left bytes (omega (arith, long, zero-mul one)))
  chunks-bytes (suc n) bytes long small =
      let size = suc-mul n one in
      ap (λ ys. ys ++ flat_map one_bytes (map one_from (first_chunks one n (drop one bytes))))
      (code.back (take one bytes) (length-take-le one bytes (omega (arith, size))) (take-small one bytes small))
      ∙ ap (λ ys. take one bytes ++ ys) (chunks-bytes n (drop one bytes) (omega (arith, size, length-drop one bytes)) (drop-small one bytes small))
      ∙ take-append-drop one bytes

  -- the same bytes are those of the same parts
  pub all_same : (ms ns : List X) (xs ys : List ℕ) → All IsPart ms → All IsPart ns → length ms ≡ length ns
      → flat_map one_bytes ms ++ xs ≡ flat_map one_bytes ns ++ ys → (ms ≡ ns) × (xs ≡ ys)
  all_same [] [] xs ys sized_a sized_b size same = (refl, same)
  all_same [] (b ∷ ns) xs ys sized_a sized_b size same = absurd (omega arith)
  all_same (a ∷ ms) [] xs ys sized_a sized_b size same = absurd (omega arith)
  all_same (a ∷ ms) (b ∷ ns) xs ys sized_a sized_b size same =
      let is_a = All-head IsPart a ms sized_a in let is_b = All-head IsPart b ns sized_b in
      let first = split_same (one_bytes a) (one_bytes b) (flat_map one_bytes ms ++ xs) (flat_map one_bytes ns ++ ys) (code.long a is_a ∙ sym (code.long b is_b))
      (sym (append_assoc (one_bytes a) (flat_map one_bytes ms) xs) ∙ same ∙ append_assoc (one_bytes b) (flat_map one_bytes ns) ys) in
      let rest = all_same ms ns xs ys (All-tail IsPart a ms sized_a) (All-tail IsPart b ns sized_b) (omega arith) first.1 in
      (ap (λ x. x ∷ ms) (code.same a b is_a is_b first.0) ∙ ap (λ zs. b ∷ zs) rest.0, rest.1)
