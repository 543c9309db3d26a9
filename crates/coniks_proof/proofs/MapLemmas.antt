-- Maps: two indices part within 256 bits, and a node depends on the entries and not on their order.
use Rattle.std.proofs.Common.{◌≡◌, ◌≢◌, ◌⊎◌, ℕ, zero, suc, ◌+◌, ◌-◌, ◌*◌, ◌/◌, ◌%◌, ◌==◌, ◌<◌, nat_lt, List, [], ◌∷◌, ◌++◌, length, slice_index, Bool, true, false, cond, not}
use Rattle.std.proofs.Common.{refl, sym, ap, subst, ◌∙◌, arith, inl, inr}
use Rattle.std.specs.List.{filter}
use Rattle.std.specs.Int as int
use Rattle.std.proofs.lemmas.Nat.Bits.{same_from_bits_below, bit_at-lt}
use Rattle.std.proofs.lemmas.Grind.{same_number_lists}
use Rattle.std.proofs.lemmas.Bool.{cases_lt}
use Rattle.std.proofs.lemmas.Bool.Decides.{nat_tests}
use Rattle.coniks_proof.specs.Bits.{bit_at, turns, child}
use Rattle.coniks_proof.specs.Entries.{Entry, IsIn, half}
use Rattle.coniks_proof.specs.Maps.{IsIndex, IsNew, IsMap, SameEntries}
use Rattle.coniks_proof.specs.Changes.{ApartWithin, AreApart}
use Rattle.coniks_proof.specs.Hashing.{Hashing}
use Rattle.coniks_proof.specs.Preimages.{inner_preimage}
use Rattle.coniks_proof.specs.Tree.{node_below, node}
use Rattle.coniks_proof.specs.Paths.{siblings_below, siblings, end_below, end_of}

pub same_test : (u v : ℕ) → u < 2 → v < 2 → (u == 1) ≡ (v == 1) → u ≡ v
same_test zero zero hu hv e = refl
same_test zero (suc zero) hu hv e = cc
same_test zero (suc (suc v)) hu hv e = absurd (omega arith)
same_test (suc zero) zero hu hv e = cc
same_test (suc zero) (suc zero) hu hv e = refl
same_test (suc zero) (suc (suc v)) hu hv e = absurd (omega arith)
same_test (suc (suc u)) v hu hv e = absurd (omega arith)

-- bit i of byte q
pub bit_of_byte : (x : List ℕ) (q i : ℕ) → i < 8 → bit_at x (8 * q + (7 - i)) ≡ (int.bit_at (slice_index x q) i == 1)
unfolding bit_at
bit_of_byte x q i small =
    let k = 8 * q + (7 - i) in
    let byte : k / 8 ≡ q = omega arith in
    let shift : 7 - k % 8 ≡ i = omega arith in
    rw (byte, shift) refl

-- indices with the same bits are the same
pub same_index : (x y : List ℕ) → IsIndex x → IsIndex y → ((k : ℕ) → k < 256 → bit_at x k ≡ bit_at y k) → x ≡ y
same_index x y ix iy agree = same_number_lists x y (omega (arith, ix.size, iy.size)) (λ q within.
    let small : q < 32 = omega (arith, ix.size) in
    same_from_bits_below 8 (slice_index x q) (slice_index y q) (ix.range q small) (iy.range q small) (λ i below.
    same_test (int.bit_at (slice_index x q) i) (int.bit_at (slice_index y q) i) (bit_at-lt (slice_index x q) i) (bit_at-lt (slice_index y q) i)
    (sym (bit_of_byte x q i below) ∙ agree (8 * q + (7 - i)) (omega arith) ∙ bit_of_byte y q i below)))

-- each index begins with these bits
abbrev pub BeginAlike : {B : Type 0} → ℕ → (ℕ → Bool) → List (Entry B) → Type 0
BeginAlike k bits [] = Unit {0}
BeginAlike k bits (e ∷ es) = ((i : ℕ) → i < k → bit_at e.index i ≡ bits i) × BeginAlike k bits es

IsNew-filter : {B : Type 0} (index : List ℕ) (f : Entry B → Bool) (es : List (Entry B)) → IsNew index es → IsNew index (filter f es)
IsNew-filter index f [] new = tt
IsNew-filter index f (e ∷ es) new = elim (f e) as (λ b. IsNew index (cond b (e ∷ filter f es) (filter f es))) [
  | true ↦ (new.0, IsNew-filter index f es new.1)
  | false ↦ IsNew-filter index f es new.1
]

pub IsMap-filter : {B : Type 0} (f : Entry B → Bool) (es : List (Entry B)) → IsMap es → IsMap (filter f es)
IsMap-filter f [] map = tt
IsMap-filter f (e ∷ es) map = elim (f e) as (λ b. IsMap (cond b (e ∷ filter f es) (filter f es))) [
  | true ↦ (map.0, IsNew-filter e.index f es map.1, IsMap-filter f es map.2)
  | false ↦ IsMap-filter f es map.2
]

-- the bits of a prefix that goes on
pub next_bits : ℕ → (ℕ → Bool) → Bool → ℕ → Bool
next_bits k bits b i = cond (nat_lt i k) (bits i) b

turned : (b : Bool) (k : ℕ) (x : List ℕ) → turns b k x ≡ true → bit_at x k ≡ b
turned true k x t = t
turned false k x t = elim (bit_at x k) as (λ v. not v ≡ true → v ≡ false) [ true ↦ λ h. cc | false ↦ λ h. refl ] t

next_alike : (k : ℕ) (bits : ℕ → Bool) (b : Bool) (x : List ℕ) → ((i : ℕ) → i < k → bit_at x i ≡ bits i) → turns b k x ≡ true → (i : ℕ) → i < suc k → bit_at x i ≡ next_bits k bits b i
unfolding next_bits
next_alike k bits b x alike t i below = elim (cases_lt i k) [
  | inl before ↦ let yes : nat_lt i k ≡ true = grind (arith, nat_tests) in rw yes (alike i before)
  | inr after ↦
      let no : nat_lt i k ≡ false = grind (arith, nat_tests) in
      let same : i ≡ k = omega arith in
      rw no (subst (λ z. bit_at x z ≡ b) (sym same) (turned b k x t))
]

pub BeginAlike-half : {B : Type 0} (b : Bool) (k : ℕ) (bits : ℕ → Bool) (es : List (Entry B)) → BeginAlike k bits es → BeginAlike (suc k) (next_bits k bits b) (half b k es)
BeginAlike-half b k bits [] alike = tt
BeginAlike-half b k bits (e ∷ es) alike =
    (elim (turns b k e.index) as (λ v. turns b k e.index ≡ v → BeginAlike (suc k) (next_bits k bits b) (cond v (e ∷ half b k es) (half b k es))) [
      | true ↦ λ t. (next_alike k bits b e.index alike.0 t, BeginAlike-half b k bits es alike.1)
      | false ↦ λ t. BeginAlike-half b k bits es alike.1
    ]) refl

pub apart_within : {B : Type 0} (h k : ℕ) (bits : ℕ → Bool) (es : List (Entry B)) → k + h ≡ 256 → IsMap es → BeginAlike k bits es → ApartWithin h k es
unfolding ApartWithin
apart_within zero k bits [] full map alike = omega arith
apart_within zero k bits (e ∷ []) full map alike = omega arith
apart_within zero k bits (e ∷ f ∷ es) full map alike =
    let last : k ≡ 256 = omega arith in
    absurd (map.1.0 (same_index e.index f.index map.0 map.2.0 (λ i below. let in_k : i < k = omega arith in alike.0 i in_k ∙ sym (alike.1.0 i in_k))))
apart_within (suc h) k bits es full map alike = (
  apart_within h (suc k) (next_bits k bits false) (half false k es) (omega arith) (IsMap-filter _ es map) (BeginAlike-half false k bits es alike),
  apart_within h (suc k) (next_bits k bits true) (half true k es) (omega arith) (IsMap-filter _ es map) (BeginAlike-half true k bits es alike),
)

pub alike_none : {B : Type 0} (es : List (Entry B)) → BeginAlike 0 (λ _. false) es
alike_none [] = tt
alike_none (e ∷ es) = ((λ i below. absurd (omega arith)), alike_none es)

-- the entries of a map part within 256 bits
pub IsMap-apart : {B : Type 0} (es : List (Entry B)) → IsMap es → AreApart 0 es
unfolding AreApart
IsMap-apart es map = apart_within 256 0 (λ _. false) es refl map (alike_none es)

-- ---- the same entries in another order

pub IsIn-filter : {T : Type 0} (x : T) (f : T → Bool) (xs : List T) → f x ≡ true → IsIn x xs → IsIn x (filter f xs)
IsIn-filter x f [] pass there = there
IsIn-filter x f (y ∷ ys) pass (inl here) = rw (ap f here ∙ pass) (inl here)
IsIn-filter x f (y ∷ ys) pass (inr later) = elim (f y) as (λ b. IsIn x (cond b (y ∷ filter f ys) (filter f ys))) [
  | true ↦ inr (IsIn-filter x f ys pass later)
  | false ↦ IsIn-filter x f ys pass later
]

pub of_filter : {T : Type 0} (x : T) (f : T → Bool) (xs : List T) → IsIn x (filter f xs) → IsIn x xs
of_filter x f [] there = there
of_filter x f (y ∷ ys) there = (elim (f y) as (λ v. IsIn x (cond v (y ∷ filter f ys) (filter f ys)) → (y ≡ x) ⊎ IsIn x ys) [
  | true ↦ λ k. elim k [ inl here ↦ inl here | inr later ↦ inr (of_filter x f ys later) ]
  | false ↦ λ k. inr (of_filter x f ys k)
]) there

pub passes : {T : Type 0} (x : T) (f : T → Bool) (xs : List T) → IsIn x (filter f xs) → f x ≡ true
passes x f [] there = absurd there
passes x f (y ∷ ys) there = (elim (f y) as (λ v. f y ≡ v → IsIn x (cond v (y ∷ filter f ys) (filter f ys)) → f x ≡ true) [
  | true ↦ λ on k. elim k [ inl here ↦ ap f (sym here) ∙ on | inr later ↦ passes x f ys later ]
  | false ↦ λ _ k. passes x f ys k
]) refl there

pub SameEntries-filter : {B : Type 0} (f : Entry B → Bool) (es fs : List (Entry B)) → SameEntries es fs → SameEntries (filter f es) (filter f fs)
SameEntries-filter f es fs same = record {
  there = λ e is. IsIn-filter e f fs (passes e f es is) (same.there e (of_filter e f es is));
  back = λ e is. IsIn-filter e f es (passes e f fs is) (same.back e (of_filter e f fs is));
}

pub SameEntries-sym : {B : Type 0} (es fs : List (Entry B)) → SameEntries es fs → SameEntries fs es
SameEntries-sym es fs same = record { there = same.back; back = same.there }

pub SameEntries-trans : {B : Type 0} (es fs gs : List (Entry B)) → SameEntries es fs → SameEntries fs gs → SameEntries es gs
SameEntries-trans es fs gs one two = record { there = λ e is. two.there e (one.there e is); back = λ e is. one.back e (two.back e is) }

-- an index that none of the entries has
pub new_apart : {B : Type 0} (i : List ℕ) (e : Entry B) (es : List (Entry B)) → IsNew i es → IsIn e es → i ≢ e.index
new_apart i e [] new there = absurd there
new_apart {B} i e (x ∷ es) new (inl here) = λ same. new.0 (same ∙ ap (λ (y : Entry B). y.index) (sym here))
new_apart i e (x ∷ es) new (inr there) = new_apart i e es new.1 there

-- two entries of a map that have one index are one
pub same_entry : {B : Type 0} (es : List (Entry B)) (e f : Entry B) → IsMap es → IsIn e es → IsIn f es → e.index ≡ f.index → e ≡ f
same_entry [] e f m one two same = absurd one
same_entry (x ∷ es) e f m (inl one) (inl two) same = sym one ∙ two
same_entry {B} (x ∷ es) e f m (inl one) (inr two) same = absurd (new_apart x.index f es m.1 two (ap (λ (y : Entry B). y.index) one ∙ same))
same_entry {B} (x ∷ es) e f m (inr one) (inl two) same = absurd (new_apart x.index e es m.1 one (ap (λ (y : Entry B). y.index) two ∙ sym same))
same_entry (x ∷ es) e f m (inr one) (inr two) same = same_entry es e f m.2 one two same

-- ---- entries that follow others

pub IsIn-append_left : {T : Type 0} (x : T) (xs ys : List T) → IsIn x xs → IsIn x (xs ++ ys)
IsIn-append_left x [] ys there = absurd there
IsIn-append_left x (y ∷ xs) ys (inl here) = inl here
IsIn-append_left x (y ∷ xs) ys (inr later) = inr (IsIn-append_left x xs ys later)

pub IsIn-append_right : {T : Type 0} (x : T) (xs ys : List T) → IsIn x ys → IsIn x (xs ++ ys)
IsIn-append_right x [] ys there = there
IsIn-append_right x (y ∷ xs) ys there = inr (IsIn-append_right x xs ys there)

pub IsIn-append : {T : Type 0} (x : T) (xs ys : List T) → IsIn x (xs ++ ys) → IsIn x xs ⊎ IsIn x ys
IsIn-append x [] ys there = inr there
IsIn-append x (y ∷ xs) ys (inl here) = inl (inl here)
IsIn-append x (y ∷ xs) ys (inr later) = elim (IsIn-append x xs ys later) [ inl left ↦ inl (inr left) | inr right ↦ inr right ]

IsNew-append : {B : Type 0} (index : List ℕ) (es fs : List (Entry B)) → IsNew index es → IsNew index fs → IsNew index (es ++ fs)
IsNew-append index [] fs one two = two
IsNew-append index (e ∷ es) fs one two = (one.0, IsNew-append index es fs one.1 two)

new_from : {B : Type 0} (index : List ℕ) (es : List (Entry B)) → ((e : Entry B) → IsIn e es → index ≢ e.index) → IsNew index es
new_from index [] apart = tt
new_from index (e ∷ es) apart = (apart e (inl refl), new_from index es (λ x there. apart x (inr there)))

-- two maps with no index of both are a map
pub IsMap-append : {B : Type 0} (es fs : List (Entry B)) → IsMap es → IsMap fs → ((e f : Entry B) → IsIn e es → IsIn f fs → e.index ≢ f.index) → IsMap (es ++ fs)
IsMap-append [] fs one two apart = two
IsMap-append (e ∷ es) fs one two apart = (
  one.0,
  IsNew-append e.index es fs one.1 (new_from e.index fs (λ f there. apart e f (inl refl) there)),
  IsMap-append es fs one.2 two (λ x f there. apart x f (inr there)),
)

pub same_as_none : {B : Type 0} (fs : List (Entry B)) → SameEntries [] fs → fs ≡ []
same_as_none [] same = refl
same_as_none (f ∷ fs) same = absurd (same.back f (inl refl))

only_one : {B : Type 0} (e f : Entry B) → IsIn f (e ∷ []) → e ≡ f
only_one e f (inl here) = here
only_one e f (inr later) = absurd later

pub same_as_one : {B : Type 0} (e : Entry B) (fs : List (Entry B)) → IsMap fs → SameEntries (e ∷ []) fs → fs ≡ e ∷ []
same_as_one e [] map same = absurd (same.there e (inl refl))
same_as_one e (f ∷ []) map same = ap (λ x. x ∷ []) (sym (only_one e f (same.back f (inl refl))))
same_as_one {B} e (f ∷ g ∷ fs) map same =
    absurd (map.1.0 (ap (λ (x : Entry B). x.index) (sym (only_one e f (same.back f (inl refl))) ∙ only_one e g (same.back g (inr (inl refl))))))

two_not_one : {B : Type 0} (e f g : Entry B) (es : List (Entry B)) → (let xs : List (Entry B) = e ∷ f ∷ es in xs ≡ g ∷ []) → ⊥
two_not_one e f g es same = let long = ap length same in omega arith

node_below-same : {B : Type 0} (by : Hashing) (h : ℕ) (p : List Bool) (es fs : List (Entry B))
    → IsMap es → IsMap fs → SameEntries es fs → node_below by h p es ≡ node_below by h p fs
unfolding node_below
node_below-same by h p [] fs me mf same = ap (node_below by h p) (sym (same_as_none fs same))
node_below-same by h p (e ∷ []) fs me mf same = ap (node_below by h p) (sym (same_as_one e fs mf same))
node_below-same by h p (e ∷ d ∷ es) [] me mf same = absurd (same.there e (inl refl))
node_below-same by h p (e ∷ d ∷ es) (f ∷ []) me mf same = absurd (two_not_one e d f es (same_as_one f (e ∷ d ∷ es) me (SameEntries-sym (e ∷ d ∷ es) (f ∷ []) same)))
node_below-same by zero p (e ∷ d ∷ es) (f ∷ g ∷ fs) me mf same = refl
node_below-same by (suc h) p (e ∷ d ∷ es) (f ∷ g ∷ fs) me mf same =
    let at : (b : Bool) → node_below by h (child p b) (half b (length p) (e ∷ d ∷ es)) ≡ node_below by h (child p b) (half b (length p) (f ∷ g ∷ fs)) =
    λ b. node_below-same by h (child p b) (half b (length p) (e ∷ d ∷ es)) (half b (length p) (f ∷ g ∷ fs))
    (IsMap-filter (λ x. turns b (length p) x.index) (e ∷ d ∷ es) me) (IsMap-filter (λ x. turns b (length p) x.index) (f ∷ g ∷ fs) mf)
    (SameEntries-filter (λ x. turns b (length p) x.index) (e ∷ d ∷ es) (f ∷ g ∷ fs) same) in
    ap (λ x. by.hash (inner_preimage x (node_below by h (child p true) (half true (length p) (e ∷ d ∷ es))))) (at false)
    ∙ ap (λ x. by.hash (inner_preimage (node_below by h (child p false) (half false (length p) (f ∷ g ∷ fs))) x)) (at true)

-- a node depends on the entries under its prefix, and not on their order
pub node-same : {B : Type 0} (by : Hashing) (p : List Bool) (es fs : List (Entry B)) → IsMap es → IsMap fs → SameEntries es fs → node by p es ≡ node by p fs
unfolding node
node-same by p es fs me mf same = node_below-same by (256 - length p) p es fs me mf same

siblings_below-same : {B : Type 0} (by : Hashing) (h : ℕ) (p : List Bool) (j : List ℕ) (es fs : List (Entry B)) → IsMap es → IsMap fs → SameEntries es fs
    → siblings_below by h p j es ≡ siblings_below by h p j fs
unfolding siblings_below
siblings_below-same by h p j [] fs me mf same = ap (siblings_below by h p j) (sym (same_as_none fs same))
siblings_below-same by h p j (e ∷ []) fs me mf same = ap (siblings_below by h p j) (sym (same_as_one e fs mf same))
siblings_below-same by h p j (e ∷ d ∷ es) [] me mf same = absurd (same.there e (inl refl))
siblings_below-same by h p j (e ∷ d ∷ es) (f ∷ []) me mf same = absurd (two_not_one e d f es (same_as_one f (e ∷ d ∷ es) me (SameEntries-sym (e ∷ d ∷ es) (f ∷ []) same)))
siblings_below-same by zero p j (e ∷ d ∷ es) (f ∷ g ∷ fs) me mf same = refl
siblings_below-same by (suc h) p j (e ∷ d ∷ es) (f ∷ g ∷ fs) me mf same =
    let b = bit_at j (length p) in
    let c = not b in
    let beside = node-same by (child p c) (half c (length p) (e ∷ d ∷ es)) (half c (length p) (f ∷ g ∷ fs))
    (IsMap-filter (λ x. turns c (length p) x.index) (e ∷ d ∷ es) me) (IsMap-filter (λ x. turns c (length p) x.index) (f ∷ g ∷ fs) mf)
    (SameEntries-filter (λ x. turns c (length p) x.index) (e ∷ d ∷ es) (f ∷ g ∷ fs) same) in
    let below = siblings_below-same by h (child p b) j (half b (length p) (e ∷ d ∷ es)) (half b (length p) (f ∷ g ∷ fs))
    (IsMap-filter (λ x. turns b (length p) x.index) (e ∷ d ∷ es) me) (IsMap-filter (λ x. turns b (length p) x.index) (f ∷ g ∷ fs) mf)
    (SameEntries-filter (λ x. turns b (length p) x.index) (e ∷ d ∷ es) (f ∷ g ∷ fs) same) in
    ap (λ x. x ∷ siblings_below by h (child p b) j (half b (length p) (e ∷ d ∷ es))) beside
    ∙ ap (λ xs. node by (child p c) (half c (length p) (f ∷ g ∷ fs)) ∷ xs) below

-- so do the siblings of a path
pub siblings-same : {B : Type 0} (by : Hashing) (p : List Bool) (j : List ℕ) (es fs : List (Entry B))
    → IsMap es → IsMap fs → SameEntries es fs → siblings by p j es ≡ siblings by p j fs
unfolding siblings
siblings-same by p j es fs me mf same = siblings_below-same by (256 - length p) p j es fs me mf same

end_below-same : {B : Type 0} (h : ℕ) (p : List Bool) (j : List ℕ) (es fs : List (Entry B)) → IsMap es → IsMap fs → SameEntries es fs → end_below h p j es ≡ end_below h p j fs
unfolding end_below
end_below-same h p j [] fs me mf same = ap (end_below h p j) (sym (same_as_none fs same))
end_below-same h p j (e ∷ []) fs me mf same = ap (end_below h p j) (sym (same_as_one e fs mf same))
end_below-same h p j (e ∷ d ∷ es) [] me mf same = absurd (same.there e (inl refl))
end_below-same h p j (e ∷ d ∷ es) (f ∷ []) me mf same = absurd (two_not_one e d f es (same_as_one f (e ∷ d ∷ es) me (SameEntries-sym (e ∷ d ∷ es) (f ∷ []) same)))
end_below-same zero p j (e ∷ d ∷ es) (f ∷ g ∷ fs) me mf same = refl
end_below-same (suc h) p j (e ∷ d ∷ es) (f ∷ g ∷ fs) me mf same =
    let b = bit_at j (length p) in
    end_below-same h (child p b) j (half b (length p) (e ∷ d ∷ es)) (half b (length p) (f ∷ g ∷ fs))
    (IsMap-filter (λ x. turns b (length p) x.index) (e ∷ d ∷ es) me) (IsMap-filter (λ x. turns b (length p) x.index) (f ∷ g ∷ fs) mf)
    (SameEntries-filter (λ x. turns b (length p) x.index) (e ∷ d ∷ es) (f ∷ g ∷ fs) same)

-- and what stands at its end
pub end_of-same : {B : Type 0} (p : List Bool) (j : List ℕ) (es fs : List (Entry B)) → IsMap es → IsMap fs → SameEntries es fs → end_of p j es ≡ end_of p j fs
unfolding end_of
end_of-same p j es fs me mf same = end_below-same (256 - length p) p j es fs me mf same
