-- The lines of bytes that come one part after another.
use Rattle.std.proofs.Common.{◌≡◌, ℕ, suc, ◌+◌, ◌-◌, ◌<◌, ◌≤◌, List, [], ◌∷◌, ◌++◌, Some, None, length, take, drop, slice_index, refl, ap, sym, subst, ◌∙◌, append_assoc, true, false, nat_eq, Bool, cond, arith, add-one, drop-cons}
use Rattle.std.proofs.Math.Seq.{take-add}
use Rattle.std.proofs.lemmas.Bool.{eqb-true}
use Rattle.std.proofs.lemmas.List.{append-nil, take-append-drop, take_more, length-take, length-drop, get_or-take, take_rest}
use Rattle.memchr.specs.Find.{IsFirstByte, is_byte}
use Rattle.coniks_lines.specs.Lines.{whole_after, rest_after}

rest_step : (buffered xs ys : List ℕ) (x : ℕ) (t : Bool)
    → rest_after [] (xs ++ ys) ≡ rest_after (rest_after [] xs) ys
    → rest_after (buffered ++ x ∷ []) (xs ++ ys) ≡ rest_after (rest_after (buffered ++ x ∷ []) xs) ys
    → cond t (rest_after [] (xs ++ ys)) (rest_after (buffered ++ x ∷ []) (xs ++ ys)) ≡ rest_after (cond t (rest_after [] xs) (rest_after (buffered ++ x ∷ []) xs)) ys
rest_step buffered xs ys x true e f = e
rest_step buffered xs ys x false e f = f

pub rest_after-append : (buffered xs ys : List ℕ) → rest_after buffered (xs ++ ys) ≡ rest_after (rest_after buffered xs) ys
rest_after-append buffered [] ys = refl
rest_after-append buffered (x ∷ xs) ys = rest_step buffered xs ys x (nat_eq x 10) (rest_after-append [] xs ys) (rest_after-append (buffered ++ x ∷ []) xs ys)

whole_step : (buffered xs ys : List ℕ) (x : ℕ) (t : Bool)
    → whole_after [] (xs ++ ys) ≡ whole_after [] xs ++ whole_after (rest_after [] xs) ys
    → whole_after (buffered ++ x ∷ []) (xs ++ ys) ≡ whole_after (buffered ++ x ∷ []) xs ++ whole_after (rest_after (buffered ++ x ∷ []) xs) ys
    → cond t (buffered ∷ whole_after [] (xs ++ ys)) (whole_after (buffered ++ x ∷ []) (xs ++ ys)) ≡ cond t (buffered ∷ whole_after [] xs)
    (whole_after (buffered ++ x ∷ []) xs) ++ whole_after (cond t (rest_after [] xs) (rest_after (buffered ++ x ∷ []) xs)) ys
whole_step buffered xs ys x true e f = ap (λ (ls : List (List ℕ)). buffered ∷ ls) e
whole_step buffered xs ys x false e f = f

pub whole_after-append : (buffered xs ys : List ℕ) → whole_after buffered (xs ++ ys) ≡ whole_after buffered xs ++ whole_after (rest_after buffered xs) ys
whole_after-append buffered [] ys = refl
whole_after-append buffered (x ∷ xs) ys = whole_step buffered xs ys x (nat_eq x 10) (whole_after-append [] xs ys) (whole_after-append (buffered ++ x ∷ []) xs ys)

-- no newline stands before this place
abbrev pub NoNewlineBefore : List ℕ → ℕ → Type 0
NoNewlineBefore bytes n = (k : ℕ) → k < n → nat_eq (slice_index bytes k) 10 ≡ true → ⊥

no_lines_step : (buffered bytes : List ℕ) (x : ℕ) (t : Bool) → (t ≡ true → ⊥)
    → whole_after (buffered ++ x ∷ []) bytes ≡ [] → rest_after (buffered ++ x ∷ []) bytes ≡ (buffered ++ x ∷ []) ++ bytes
    → (cond t (buffered ∷ whole_after [] bytes) (whole_after (buffered ++ x ∷ []) bytes) ≡ []) × (cond t (rest_after [] bytes) (rest_after (buffered ++ x ∷ []) bytes) ≡ buffered ++ x ∷ bytes)
no_lines_step buffered bytes x true other e f = absurd (other refl)
no_lines_step buffered bytes x false other e f = (e, f ∙ append_assoc buffered (x ∷ []) bytes)

-- bytes with no newline end no line, and are buffered
pub no_lines : (buffered bytes : List ℕ) → NoNewlineBefore bytes (length bytes)
    → (whole_after buffered bytes ≡ []) × (rest_after buffered bytes ≡ buffered ++ bytes)
no_lines buffered [] none = (refl, sym (append-nil buffered))
no_lines buffered (x ∷ bytes) none =
    let later = no_lines (buffered ++ x ∷ []) bytes (λ k lt. none (suc k) (omega arith)) in
    no_lines_step buffered bytes x (nat_eq x 10) (none 0 (omega arith)) later.0 later.1

-- bytes up to a newline end one line
pub line_ended : (buffered xs ys : List ℕ) → NoNewlineBefore xs (length xs)
    → (whole_after buffered (xs ++ 10 ∷ ys) ≡ (buffered ++ xs) ∷ whole_after [] ys) × (rest_after buffered (xs ++ 10 ∷ ys) ≡ rest_after [] ys)
line_ended buffered xs ys none =
    let before = no_lines buffered xs none in
    let lines : whole_after buffered xs ++ (rest_after buffered xs ∷ whole_after [] ys) ≡ (buffered ++ xs) ∷ whole_after [] ys =
    ap (λ (ls : List (List ℕ)). ls ++ (rest_after buffered xs ∷ whole_after [] ys)) before.0 ∙ ap (λ (l : List ℕ). l ∷ whole_after [] ys) before.1 in
    (whole_after-append buffered xs (10 ∷ ys) ∙ lines, rest_after-append buffered xs (10 ∷ ys))

-- the lines round one that a newline ends
pub lines_around : (buffered front xs ys : List ℕ) → NoNewlineBefore xs (length xs)
    → whole_after buffered (front ++ (xs ++ 10 ∷ ys)) ≡ whole_after buffered front ++ ((rest_after buffered front ++ xs) ∷ whole_after [] ys)
lines_around buffered front xs ys none =
    whole_after-append buffered front (xs ++ 10 ∷ ys) ∙ ap (λ (ls : List (List ℕ)). whole_after buffered front ++ ls) (line_ended (rest_after buffered front) xs ys none).0

-- a front with no newline before this place
pub NoNewlineBefore-take : (bytes : List ℕ) (n : ℕ) → n ≤ length bytes → NoNewlineBefore bytes n → NoNewlineBefore (take n bytes) (length (take n bytes))
NoNewlineBefore-take bytes n le none = λ k lt here.
    let below : k < n = omega (arith, length-take n bytes) in
    none k below (subst (λ (b : ℕ). nat_eq b 10 ≡ true) (get_or-take n bytes k 0 below) here)

-- a list round one of its places
pub around : (bytes : List ℕ) (n : ℕ) → n < length bytes → slice_index bytes n ≡ 10 → bytes ≡ take n bytes ++ 10 ∷ drop (n + 1) bytes
around bytes n lt here = sym (rw (← here, add-one, ← drop-cons bytes n 0) (take-append-drop n bytes))

-- the bytes from one place up to another
abbrev pub part_of : List ℕ → ℕ → ℕ → List ℕ
part_of bytes from to = take (to - from) (drop from bytes)

-- where a search for the first newline of the bytes from a place on has found one
pub record FindsNewline (bytes : List ℕ) (start n : ℕ) : Type 0 where
  pub fits : start + n < length bytes
  pub none_before : NoNewlineBefore (part_of bytes start (start + n)) (length (part_of bytes start (start + n)))
  pub parts : bytes ≡ take start bytes ++ (part_of bytes start (start + n) ++ 10 ∷ drop (n + 1) (drop start bytes))
  pub longer : take (start + (n + 1)) bytes ≡ take start bytes ++ (part_of bytes start (start + n) ++ 10 ∷ [])

pub newline_found : (bytes : List ℕ) (start n : ℕ) → start ≤ length bytes → IsFirstByte (is_byte 10) (part_of bytes start (length bytes)) (Some n) → FindsNewline bytes start n
newline_found bytes start n within search_result =
    let rest = drop start bytes in
    let found : IsFirstByte (is_byte 10) rest (Some n) = subst (λ (hay : List ℕ). IsFirstByte (is_byte 10) hay (Some n)) (take_rest bytes start) search_result in
    let high : n < length rest = found.0.high in
    let len : length rest ≡ length bytes - start = length-drop start bytes in
    let here : slice_index rest n ≡ 10 = eqb-true (slice_index rest n) 10 found.1 in
    let size : start + n - start ≡ n = omega arith in
    let none : NoNewlineBefore (take n rest) (length (take n rest)) = NoNewlineBefore-take rest n (omega (arith, high)) (λ k lt is. found.0.before k (omega arith) lt is) in
    let parts : bytes ≡ take start bytes ++ (take n rest ++ 10 ∷ drop (n + 1) rest) =
    sym (take-append-drop start bytes) ∙ ap (λ (r : List ℕ). take start bytes ++ r) (around rest n high here) in
    let longer : take (start + (n + 1)) bytes ≡ take start bytes ++ (take n rest ++ 10 ∷ []) =
    take-add start (n + 1) bytes ∙ ap (λ (r : List ℕ). take start bytes ++ r) (take_more rest n 0 high ∙ ap (λ (b : ℕ). take n rest ++ b ∷ []) here) in
    record {
      fits = omega (arith, high, len);
      none_before = subst (λ (k : ℕ). NoNewlineBefore (take k rest) (length (take k rest))) (sym size) none;
      parts = subst (λ (k : ℕ). bytes ≡ take start bytes ++ (take k rest ++ 10 ∷ drop (n + 1) rest)) (sym size) parts;
      longer = subst (λ (k : ℕ). take (start + (n + 1)) bytes ≡ take start bytes ++ (take k rest ++ 10 ∷ [])) (sym size) longer;
    }

-- where it has found none
pub no_newline_found : (bytes : List ℕ) → IsFirstByte (is_byte 10) bytes None → NoNewlineBefore bytes (length bytes)
no_newline_found bytes none = λ k lt is. none k (omega arith) lt is

-- a front and what stands after it are the whole
pub front_and_rest : (bytes : List ℕ) (start : ℕ) → take start bytes ++ part_of bytes start (length bytes) ≡ bytes
front_and_rest bytes start = ap (λ (r : List ℕ). take start bytes ++ r) (take_rest bytes start) ∙ take-append-drop start bytes
