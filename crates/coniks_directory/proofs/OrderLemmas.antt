-- The changes of a batch, in the order of the map of their records.
use Rattle.std.proofs.Common.{◌≡◌, ℕ, zero, suc, ◌+◌, ◌<◌, List, [], ◌∷◌, ◌++◌, length, map, arith, true, false, refl, sym, ap, ◌∙◌, inl, inr, cond, slice_index, Some, slice_get}
use Rattle.coniks_directory.proofs.Words.{All, All-found, All-map, AllAfter, AllByRecursion, AreChangesOf, ArePendingRecords, AreIncreasing, BTreeMap}
use Rattle.coniks_directory.proofs.Words.{IsBefore, IsIn, IsPendingRecord, IsIndex, IsStrictlySortedBy, Less, Numbered, Record, Registered, by_ranked}
use Rattle.coniks_directory.proofs.Words.{entry_of_record, is_at, is_eq, keys_of, length-map, lookup, map-append, nat_cmp, nat_list_cmp_total}
use Rattle.coniks_directory.proofs.Words.{option_map_or, ranked, slice_cmp, slice_get_within, values, values_of}

-- ---- the order of byte lists

-- at the first place at which they differ, the lesser list has the smaller number
less : (xs ys : List ℕ) → length xs ≡ length ys → slice_cmp nat_cmp xs ys ≡ Less
    → (place : ℕ) × (place < length xs) × ((q : ℕ) → q < place → slice_index xs q ≡ slice_index ys q) × (slice_index xs place < slice_index ys place)
less [] [] long h = absurd (let found = h in cc)
less [] (y ∷ ys) long h = absurd (omega arith)
less (x ∷ xs) [] long h = absurd (omega arith)
less (x ∷ xs) (y ∷ ys) long h = by_ranked (x < y) (x ≡ y) (y < x) (nat_cmp x y) (ranked x y (nat_cmp x y) refl)
    (λ _ first. (0, omega arith, (λ q below. absurd (omega arith)), first))
    (λ tie same.
    let c = less xs ys (omega arith) (rw tie at h) in
    (suc c.0, omega (arith, c.1), (λ q. elim q as (λ n. n < suc c.0 → slice_index (x ∷ xs) n ≡ slice_index (y ∷ ys) n) [ zero ↦ λ _. same | suc r ↦ λ below. c.2 r (omega arith) ]), c.3))
    (λ more _. absurd (let never = rw more at h in cc))

before : (x y : List ℕ) → IsIndex x → IsIndex y → slice_cmp nat_cmp x y ≡ Less → IsBefore x y
before x y ix iy h =
    let l = less x y (ix.size ∙ sym iy.size) h in record { place = l.0; within = omega (arith, l.1, ix.size); same = l.2; smaller = l.3 }

-- ---- the entries of the numbers of a map

-- the entry of the record of a number, with the number shifted by a base; an empty entry if there is no record
abbrev pub entry_at : ℕ → List Record → ℕ → Numbered
entry_at base records n = option_map_or (entry_of_record (base + n)) (slice_get records n) (record { index = []; commitment = []; behind = n })

pub maps-push : {A B C : Type 0} (f : A → C) (g : B → C) (xs : List A) (ys : List B) (x : A) (y : B) → map g ys ≡ map f xs → g y ≡ f x → map g (ys ++ y ∷ []) ≡ map f (xs ++ x ∷ [])
maps-push f g xs ys x y are is = map-append g ys (y ∷ []) ∙ ap (λ zs. zs ++ g y ∷ []) are ∙ ap (λ z. map f xs ++ z ∷ []) is ∙ sym (map-append f xs (x ∷ []))

-- an index with the number of a record that has it
abbrev IsRetained : List Record → List ℕ × ℕ → Type 0
IsRetained records p = (r : Record) × (slice_get records p.1 ≡ Some r) × (r.index.0 ≡ p.0)

module _ (index_of : List ℕ → List ℕ) (base : ℕ) (records : List Record) (drafted : (n : ℕ) (r : Record) → slice_get records n ≡ Some r → IsPendingRecord index_of r) where
  after : (x : List ℕ) (ps : List (List ℕ × ℕ)) → IsIndex x → All (IsRetained records) ps → AllByRecursion (λ y. slice_cmp nat_cmp x y ≡ Less) (keys_of ps)
      → AllAfter x (map (entry_at base records) (values_of ps))
  after x [] ix retained sorted = tt
  after x (p ∷ ps) ix retained sorted =
      let k = retained 0 p (omega arith) in
      let here = before x k.0.index.0 ix (drafted p.1 k.0 k.1).ranged (ap (slice_cmp nat_cmp x) k.2 ∙ sorted.0) in
      (rw k.1 here, after x ps ix (λ i d below. retained (suc i) d (omega arith)) sorted.1)

  increasing : (ps : List (List ℕ × ℕ)) → All (IsRetained records) ps → IsStrictlySortedBy (slice_cmp nat_cmp) (keys_of ps) → AreIncreasing (map (entry_at base records) (values_of ps))
  unfolding IsStrictlySortedBy
  increasing [] retained sorted = tt
  increasing (p ∷ ps) retained sorted =
      let k = retained 0 p (omega arith) in
      let more : All (IsRetained records) ps = λ i d below. retained (suc i) d (omega arith) in
      let ranged = (drafted p.1 k.0 k.1).ranged in
      (rw k.1 ranged, rw k.1 (after k.0.index.0 ps ranged more (rw k.2 sorted.0)), increasing ps more sorted.1)

-- an entry is that of a record
only : (base : ℕ) (records : List Record) (ps : List (List ℕ × ℕ)) (e : Numbered) → All (IsRetained records) ps → IsIn e (map (entry_at base records) (values_of ps))
    → (n : ℕ) × (r : Record) × (slice_get records n ≡ Some r) × (entry_of_record (base + n) r ≡ e)
only base records [] e retained there = absurd there
only base records (p ∷ ps) e retained (inl here) = let k = retained 0 p (omega arith) in (p.1, k.0, k.1, rw k.1 at here)
only base records (p ∷ ps) e retained (inr later) = only base records ps e (λ i d below. retained (suc i) d (omega arith)) later

-- the entry of a number that a lookup finds
each : (base : ℕ) (records : List Record) (ps : List (List ℕ × ℕ)) (index : List ℕ) (n : ℕ) → lookup (is_at (slice_cmp nat_cmp index)) ps ≡ Some n
    → IsIn (entry_at base records n) (map (entry_at base records) (values_of ps))
each base records [] index n some = absurd (let never = some in cc)
each base records (p ∷ ps) index n some =
    (elim (is_eq (slice_cmp nat_cmp index p.0)) as (λ v. cond v (Some p.1) (lookup (is_at (slice_cmp nat_cmp index)) ps) ≡ Some n
    → IsIn (entry_at base records n) (map (entry_at base records) (values_of (p ∷ ps)))) [
      | true ↦ λ h. let number : p.1 ≡ n = cc in inl (ap (entry_at base records) number)
      | false ↦ λ h. inr (each base records ps index n h)
    ]) some

module _ (hash index_of : List ℕ → List ℕ) (bound : List Registered) (records : List Record) (numbers : BTreeMap (List ℕ) ℕ) (s : ArePendingRecords hash index_of bound records numbers) where
  all_retained : All (IsRetained records) numbers.entries
  all_retained k d below = s.retained _ _ (All-found nat_list_cmp_total numbers s.ordered k d below)

  -- each number is that of a record
  pub numbers_within : All (λ n. n < length records) (values numbers)
  numbers_within = All-map (λ n. n < length records) (λ (p : List ℕ × ℕ). p.1) numbers.entries (λ k d below. let r = all_retained k d below in slice_get_within records _ r.0 r.1)

  pub changes : (base : ℕ) → AreChangesOf base records (map (entry_at base records) (values numbers))
  changes base = record {
    increasing = increasing index_of base records s.drafted numbers.entries all_retained s.ordered;
    each = λ n r at. rw at at (each base records numbers.entries r.index.0 n (s.all n r at));
    only = λ e there. only base records numbers.entries e all_retained there;
    counted = length-map (values numbers) (entry_at base records) ∙ length-map numbers.entries (λ (p : List ℕ × ℕ). p.1) ∙ s.counted;
  }
