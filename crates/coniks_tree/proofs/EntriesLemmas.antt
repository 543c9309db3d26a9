-- The entries of a map as a list in the order of their indices.
use Rattle.std.proofs.Common.{◌≡◌, ◌≢◌, ℕ, zero, suc, ◌+◌, ◌-◌, ◌<◌, ◌≤◌, List, [], ◌∷◌, ◌++◌, length, Some, slice_get, map, Bool, true, false, cond, not}
use Rattle.std.proofs.Common.{refl, sym, ap, subst, ◌∙◌, arith, inl, inr, append_assoc, append-nil}
use Rattle.std.proofs.lemmas.List.Elements.{filter-append}
use Rattle.std.proofs.lemmas.List.{map-append}
use Rattle.std.proofs.lemmas.Option.{slice_get_cases}
use Rattle.coniks_proof.specs.Bits.{bit_at, child, turns}
use Rattle.coniks_proof.specs.Entries.{Entry, IsIn, backed_by, half}
use Rattle.coniks_proof.specs.Maps.{IsMap, SameEntries}
use Rattle.coniks_proof.specs.Changes.{ApartWithin, AreApart, AreIncreasing, AreInOrder, InOrderWithin, overwritten}
use Rattle.coniks_proof.specs.Hashing.{Hashing}
use Rattle.coniks_proof.proofs.Lemmas.{IsIn-append, IsIn-append_left, IsIn-append_right, IsIn-filter, IsMap-apart, IsMap-append, IsMap-filter, SameEntries-filter, SameEntries-sym, of_filter, passes}
use Rattle.coniks_proof.proofs.Lemmas.{all_left, all_right, filters_swap, half-backed, in_order-AreIncreasing, length-halves, overwritten-empty}
use Rattle.coniks_proof.specs.declared.values.Digest.{Digest}
use Rattle.coniks_tree.specs.Entries.{AreStored, Lists, entries_at, entry_at, in_order, in_order_within}
use Rattle.coniks_tree.specs.Parts.{Stands, entries_in, entry_of_change}
use Rattle.coniks_tree.proofs.PushLemmas.{Stands-same}
use Rattle.coniks_tree.specs.Table.{Numbered, Shows, shows_empty, shows_leaf, shows_inner, entry_of_record, Table}
use Rattle.coniks_tree.specs.declared.part.Change.{Change}
use Rattle.coniks_tree.specs.declared.part.Part.{Part}
use Rattle.coniks_tree.specs.declared.table.Node.TheVariants.{Empty, Leaf, Inner}
use Rattle.coniks_tree.specs.declared.table.Record.{Record}
use Rattle.coniks_tree.specs.declared.table.RecordNo.{RecordNo}

-- ---- the list, level by level

-- at most one entry is on one of its sides
pub halves-few : {B : Type 0} (k : ℕ) (es : List (Entry B)) → length es ≤ 1 → half false k es ++ half true k es ≡ es
halves-few k [] few = refl
halves-few k (e ∷ []) few = elim (bit_at e.index k) as (λ b. cond (not b) (e ∷ []) [] ++ cond b (e ∷ []) [] ≡ e ∷ []) [ true ↦ refl | false ↦ refl ]
halves-few k (e ∷ f ∷ es) few = absurd (omega arith)

within-few : {B : Type 0} (h k : ℕ) (es : List (Entry B)) → length es ≤ 1 → in_order_within h k es ≡ es
unfolding in_order_within
within-few zero k es few = refl
within-few (suc h) k es few =
    let all = length-halves k es in
    let left = within-few h (suc k) (half false k es) (omega (arith, all, few)) in
    let right = within-few h (suc k) (half true k es) (omega (arith, all, few)) in
    ap (λ xs. xs ++ in_order_within h (suc k) (half true k es)) left ∙ ap (λ xs. half false k es ++ xs) right ∙ halves-few k es few

-- a map of at most one entry is its own list
pub in_order-few : {B : Type 0} (k : ℕ) (es : List (Entry B)) → length es ≤ 1 → in_order k es ≡ es
unfolding in_order
in_order-few k es few = within-few (256 - k) k es few

within-same : (h k : ℕ) (es : List Numbered) → InOrderWithin h k es → in_order_within h k es ≡ es
unfolding InOrderWithin in_order_within
within-same zero k es order = refl
within-same (suc h) k es order =
    ap (λ xs. xs ++ in_order_within h (suc k) (half true k es)) (within-same h (suc k) (half false k es) order.1)
    ∙ ap (λ xs. half false k es ++ xs) (within-same h (suc k) (half true k es) order.2) ∙ sym order.0

-- entries that are in order are their own list
pub in_order-same : (k : ℕ) (es : List Numbered) → AreInOrder k es → in_order k es ≡ es
unfolding AreInOrder in_order
in_order-same k es order = within-same (256 - k) k es order

-- the list of the left side, then that of the right side
pub in_order-inner : {B : Type 0} (k : ℕ) (es : List (Entry B)) → k < 256 → in_order k es ≡ in_order (k + 1) (half false k es) ++ in_order (k + 1) (half true k es)
unfolding in_order in_order_within
in_order-inner k es short =
    let here : 256 - k ≡ suc (255 - k) = omega arith in
    let below : 255 - k ≡ 256 - suc k = omega arith in
    let deeper : suc k ≡ k + 1 = omega arith in
    ap (λ n. in_order_within n k es) here
    ∙ ap (λ n. in_order_within n (suc k) (half false k es) ++ in_order_within n (suc k) (half true k es)) below
    ∙ ap (λ n. in_order n (half false k es) ++ in_order n (half true k es)) deeper

-- ---- the list of what a node shows

-- what an interior node shows is what its two nodes show
pub record ShowsBelow (by : Hashing) (t : Table) (l r : ℕ) (p : List Bool) (es : List Numbered) : Type 0 where
  pub short : length p < 256
  pub left : Shows by t l (child p false) (half false (length p) es)
  pub right : Shows by t r (child p true) (half true (length p) es)

pub Shows-below : (by : Hashing) (t : Table) (n l r : ℕ) (p : List Bool) (es : List Numbered) (d : Digest)
    → slice_get t.nodes n ≡ Some (Inner l r d) → Shows by t n p es → ShowsBelow by t l r p es
Shows-below by t _ l r _ _ d here (shows_empty n p es d' at none is) = cc
Shows-below by t _ l r _ _ d here (shows_leaf n p es d' place rec at stored one is) = cc
Shows-below by t _ l r _ _ d here (shows_inner n p es d' l' r' at short many is left right) =
    let l-is : l' ≡ l = cc in
    let r-is : r' ≡ r = cc in
    record {
      short = short;
      left = subst (λ k. Shows by t k (child p false) (half false (length p) es)) l-is left;
      right = subst (λ k. Shows by t k (child p true) (half true (length p) es)) r-is right;
    }

-- an empty node shows nothing
pub Shows-none : (by : Hashing) (t : Table) (n : ℕ) (p : List Bool) (es : List Numbered) (d : Digest)
    → slice_get t.nodes n ≡ Some (Empty d) → Shows by t n p es → es ≡ []
Shows-none by t _ _ _ d here (shows_empty n p es d' at none is) = none
Shows-none by t _ _ _ d here (shows_leaf n p es d' place rec at stored one is) = cc
Shows-none by t _ _ _ d here (shows_inner n p es d' l r at short many is left right) = cc

-- a leaf shows the entry of its record
pub Shows-one : (by : Hashing) (t : Table) (n : ℕ) (p : List Bool) (es : List Numbered) (place : RecordNo) (d : Digest)
    → slice_get t.nodes n ≡ Some (Leaf place d) → Shows by t n p es → (length es ≤ 1) × (es ≡ entry_at place.0 (slice_get t.records place.0))
Shows-one by t _ _ _ place d here (shows_empty n p es d' at none is) = cc
Shows-one by t _ _ _ place d here (shows_inner n p es d' l r at short many is left right) = cc
Shows-one by t _ _ _ place d here (shows_leaf n p es d' place' r at stored one is) =
    let same : place' ≡ place = cc in (
      omega (arith, ap length one),
      one ∙ ap (entry_at place'.0) (sym stored) ∙ ap (λ (q : RecordNo). entry_at q.0 (slice_get t.records q.0)) same,
    )

-- ---- the places

pub entries_at-append : (records : List Record) (ps qs : List RecordNo) → entries_at records (ps ++ qs) ≡ entries_at records ps ++ entries_at records qs
entries_at-append records [] qs = refl
entries_at-append records (p ∷ ps) qs =
    let first = entry_at p.0 (slice_get records p.0) in
    ap (λ es. first ++ es) (entries_at-append records ps qs) ∙ sym (append_assoc first (entries_at records ps) (entries_at records qs))

pub AreStored-push : (n : ℕ) (ps : List RecordNo) (p : RecordNo) → AreStored n ps → p.0 < n → AreStored n (ps ++ p ∷ [])
AreStored-push n [] p stored here = (here, tt)
AreStored-push n (q ∷ ps) p stored here = (stored.0, AreStored-push n ps p stored.1 here)

-- the entry at a place, if it is that of the place's record
stored_entry : (records : List Record) (n : ℕ) (e : Numbered) → n < length records → ((r : Record) → slice_get records n ≡ Some r → e ≡ entry_of_record n r)
    → entry_at n (slice_get records n) ≡ e ∷ []
stored_entry records n e within is = elim (slice_get_cases records n).1 [
  | inl found ↦ ap (entry_at n) found.2 ∙ ap (λ x. x ∷ []) (sym (is found.0 found.2))
  | inr past ↦ absurd (omega (arith, past.0, within))
]

-- one more change, with the entry at a place
pub listed_change : (records : List Record) (cs new : List Change) (c : Change) (n : ℕ) → new ≡ cs ++ c ∷ [] → n < length records
    → ((r : Record) → slice_get records n ≡ Some r → entry_of_change c ≡ entry_of_record n r) → entries_in new ≡ entries_in cs ++ entry_at n (slice_get records n)
listed_change records cs new c n new-is within is =
    ap entries_in new-is ∙ map-append entry_of_change cs (c ∷ []) ∙ ap (λ es. entries_in cs ++ es) (sym (stored_entry records n (entry_of_change c) within is))

-- ---- the list, one part after another

-- the list continues with no entries
pub listed-none : (old : List Numbered) (k : ℕ) (es : List Numbered) → es ≡ [] → old ≡ old ++ in_order k es
listed-none old k es none =
    let nothing : in_order k es ≡ [] = in_order-few k es (omega (arith, ap length none)) ∙ none in
    sym (append-nil old) ∙ ap (λ xs. old ++ xs) (sym nothing)

-- the list continues with the entry at a place
pub listed-one : (records : List Record) (ps new : List RecordNo) (place : RecordNo) (k : ℕ) (es : List Numbered) → new ≡ ps ++ place ∷ []
    → length es ≤ 1 → es ≡ entry_at place.0 (slice_get records place.0) → entries_at records new ≡ entries_at records ps ++ in_order k es
listed-one records ps new place k es new-is few one =
    ap (entries_at records) new-is ∙ entries_at-append records ps (place ∷ [])
    ∙ ap (λ xs. entries_at records ps ++ xs) (append-nil (entry_at place.0 (slice_get records place.0)) ∙ sym one ∙ sym (in_order-few k es few))

-- the list continues with the lists of two sides
pub listed-both : (old middle new : List Numbered) (k : ℕ) (es : List Numbered) → k < 256
    → middle ≡ old ++ in_order (k + 1) (half false k es) → new ≡ middle ++ in_order (k + 1) (half true k es) → new ≡ old ++ in_order k es
listed-both old middle new k es short left right =
    right ∙ ap (λ xs. xs ++ in_order (k + 1) (half true k es)) left
    ∙ append_assoc old (in_order (k + 1) (half false k es)) (in_order (k + 1) (half true k es))
    ∙ ap (λ xs. old ++ xs) (sym (in_order-inner k es short))

-- ---- the whole list

-- no entry is on both sides
neither : {B : Type 0} (k : ℕ) (es : List (Entry B)) → (half false k (half true k es) ≡ []) × (half true k (half false k es) ≡ [])
neither k [] = (refl, refl)
neither k (e ∷ es) =
    let rest = neither k es in
    (elim (bit_at e.index k) as (λ b. bit_at e.index k ≡ b
    → (half false k (cond b (e ∷ half true k es) (half true k es)) ≡ []) × (half true k (cond (not b) (e ∷ half false k es) (half false k es)) ≡ [])) [
      | true ↦ λ right. (rw right rest.0, rest.1)
      | false ↦ λ left. (rest.0, rw left rest.1)
    ]) refl

-- the list of a side is that side of the list
within-half : {B : Type 0} (b : Bool) (j h k : ℕ) (es : List (Entry B)) → half b j (in_order_within h k es) ≡ in_order_within h k (half b j es)
unfolding in_order_within
within-half b j zero k es = refl
within-half {B} b j (suc h) k es =
    let goes : Entry B → Bool = λ e. turns b j e.index in
    let swapped : (c : Bool) → half b j (half c k es) ≡ half c k (half b j es) = λ c. filters_swap goes (λ e. turns c k e.index) (λ e. turns c k e.index) (λ _ _. refl) es in
    let side : (c : Bool) → half b j (in_order_within h (suc k) (half c k es)) ≡ in_order_within h (suc k) (half c k (half b j es)) =
    λ c. within-half b j h (suc k) (half c k es) ∙ ap (in_order_within h (suc k)) (swapped c) in
    filter-append goes (in_order_within h (suc k) (half false k es)) (in_order_within h (suc k) (half true k es))
    ∙ ap (λ xs. xs ++ half b j (in_order_within h (suc k) (half true k es))) (side false)
    ∙ ap (λ xs. in_order_within h (suc k) (half false k (half b j es)) ++ xs) (side true)

-- the list of those that go to a side at some level is that of the list
pub in_order-half : {B : Type 0} (b : Bool) (j k : ℕ) (es : List (Entry B)) → half b j (in_order k es) ≡ in_order k (half b j es)
unfolding in_order
in_order-half b j k es = within-half b j (256 - k) k es

-- at a level the list's sides are the lists of the sides
within-sides : {B : Type 0} (h k : ℕ) (es : List (Entry B))
    → (half false k (in_order_within (suc h) k es) ≡ in_order_within h (suc k) (half false k es)) × (half true k (in_order_within (suc h) k es) ≡ in_order_within h (suc k) (half true k es))
unfolding in_order_within
within-sides h k es =
    let none = neither k es in
    let list = in_order_within h (suc k) in
    let nothing : list [] ≡ [] = within-few h (suc k) [] (omega arith) in
    let left : list (half false k (half false k es)) ++ list (half true k (half false k es)) ≡ list (half false k es) =
    ap (λ xs. list xs ++ list (half true k (half false k es))) (all_left k (half false k es) none.1)
    ∙ ap (λ xs. list (half false k es) ++ list xs) none.1 ∙ ap (λ xs. list (half false k es) ++ xs) nothing ∙ append-nil (list (half false k es)) in
    let right : list (half false k (half true k es)) ++ list (half true k (half true k es)) ≡ list (half true k es) =
    ap (λ xs. list xs ++ list (half true k (half true k es))) none.0
    ∙ ap (λ xs. list [] ++ list xs) (all_right k (half true k es) none.0) ∙ ap (λ xs. xs ++ list (half true k es)) nothing in
    (within-half false k (suc h) k es ∙ left, within-half true k (suc h) k es ∙ right)

-- the list is in order
within-ordered : {B : Type 0} (h k : ℕ) (es : List (Entry B)) → ApartWithin h k es → InOrderWithin h k (in_order_within h k es)
unfolding ApartWithin InOrderWithin in_order_within
within-ordered zero k es apart = apart
within-ordered (suc h) k es apart =
    let sides = within-sides h k es in
    let list = in_order_within h (suc k) in (
      ap (λ xs. xs ++ list (half true k es)) (sym sides.0) ∙ ap (λ xs. half false k (in_order_within (suc h) k es) ++ xs) (sym sides.1),
      subst (InOrderWithin h (suc k)) (sym sides.0) (within-ordered h (suc k) (half false k es) apart.0),
      subst (InOrderWithin h (suc k)) (sym sides.1) (within-ordered h (suc k) (half true k es) apart.1),
    )

-- the list contains the entries of the map
within-there : {B : Type 0} (h k : ℕ) (es : List (Entry B)) (e : Entry B) → IsIn e es → IsIn e (in_order_within h k es)
unfolding in_order_within
within-there zero k es e there = there
within-there (suc h) k es e there =
    let list = in_order_within h (suc k) in
    (elim (bit_at e.index k) as (λ b. bit_at e.index k ≡ b → IsIn e (list (half false k es) ++ list (half true k es))) [
      | true ↦ λ right. IsIn-append_right e (list (half false k es)) (list (half true k es))
          (within-there h (suc k) (half true k es) e (IsIn-filter e (λ x. turns true k x.index) es right there))
      | false ↦ λ left. IsIn-append_left e (list (half false k es)) (list (half true k es))
          (within-there h (suc k) (half false k es) e (IsIn-filter e (λ x. turns false k x.index) es (ap not left) there))
    ]) refl

-- the list contains no other entries
within-back : {B : Type 0} (h k : ℕ) (es : List (Entry B)) (e : Entry B) → IsIn e (in_order_within h k es) → IsIn e es
unfolding in_order_within
within-back zero k es e there = there
within-back (suc h) k es e there =
    let list = in_order_within h (suc k) in
    elim (IsIn-append e (list (half false k es)) (list (half true k es)) there) [
      | inl left ↦ of_filter e (λ x. turns false k x.index) es (within-back h (suc k) (half false k es) e left)
      | inr right ↦ of_filter e (λ x. turns true k x.index) es (within-back h (suc k) (half true k es) e right)
    ]

-- entries of different sides have different indices
sides_part : {B : Type 0} (k : ℕ) (es : List (Entry B)) (e f : Entry B) → IsIn e (half false k es) → IsIn f (half true k es) → e.index ≢ f.index
sides_part k es e f left right same =
    let on : bit_at e.index k ≡ true = ap (λ i. bit_at i k) same ∙ passes f (λ x. turns true k x.index) es right in
    let off : not (bit_at e.index k) ≡ true = passes e (λ x. turns false k x.index) es left in cc

-- the list of a map is a map
within-map : {B : Type 0} (h k : ℕ) (es : List (Entry B)) → IsMap es → IsMap (in_order_within h k es)
unfolding in_order_within
within-map zero k es map = map
within-map (suc h) k es map =
    IsMap-append (in_order_within h (suc k) (half false k es)) (in_order_within h (suc k) (half true k es))
    (within-map h (suc k) (half false k es) (IsMap-filter (λ e. turns false k e.index) es map))
    (within-map h (suc k) (half true k es) (IsMap-filter (λ e. turns true k e.index) es map))
    (λ e f left right. sides_part k es e f (within-back h (suc k) (half false k es) e left) (within-back h (suc k) (half true k es) f right))

-- changes whose entries are the list
pub in_order-Lists : (changes : List Change) (es : List Numbered) → AreApart 0 es → entries_in changes ≡ in_order 0 es → Lists changes es
unfolding AreApart AreInOrder in_order
in_order-Lists changes es apart is = record {
  order = subst (InOrderWithin 256 0) (sym is) (within-ordered 256 0 es apart);
  same = record {
    there = λ e there. subst (IsIn e) (sym is) (within-there 256 0 es e there);
    back = λ e there. within-back 256 0 es e (subst (IsIn e) is there);
  };
  once = λ map. subst IsMap (sym is) (within-map 256 0 es map);
}

-- the list of a map is in increasing order of index
pub in_order-increasing : (es : List Numbered) → IsMap es → AreIncreasing (in_order 0 es)
unfolding AreApart AreInOrder in_order
in_order-increasing es map = in_order-AreIncreasing (in_order_within 256 0 es) (within-map 256 0 es map) (within-ordered 256 0 es (IsMap-apart es map))

-- entries in order are the same list, if they are the same entries
same_order : {B : Type 0} (h k : ℕ) (es fs : List (Entry B)) → InOrderWithin h k es → InOrderWithin h k fs → SameEntries es fs → es ≡ fs
unfolding InOrderWithin
same_order zero k [] [] few few' same = refl
same_order zero k [] (f ∷ fs) few few' same = absurd (same.back f (inl refl))
same_order zero k (e ∷ es) [] few few' same = absurd (same.there e (inl refl))
same_order zero k (e ∷ []) (f ∷ []) few few' same = elim (same.there e (inl refl)) [ inl is ↦ ap (λ x. x ∷ []) (sym is) | inr other ↦ absurd other ]
same_order zero k (e ∷ e' ∷ es) (f ∷ fs) few few' same = absurd (omega (arith, few))
same_order zero k (e ∷ []) (f ∷ f' ∷ fs) few few' same = absurd (omega (arith, few'))
same_order (suc h) k es fs order order' same =
    let side : (b : Bool) → SameEntries (half b k es) (half b k fs) = λ b. SameEntries-filter (λ e. turns b k e.index) es fs same in
    order.0 ∙ ap (λ xs. xs ++ half true k es) (same_order h (suc k) (half false k es) (half false k fs) order.1 order'.1 (side false))
    ∙ ap (λ xs. half false k fs ++ xs) (same_order h (suc k) (half true k es) (half true k fs) order.2 order'.2 (side true)) ∙ sym order'.0

-- maps with the same entries have the same list
pub in_order-alike : {B : Type 0} (es fs : List (Entry B)) → IsMap es → IsMap fs → SameEntries es fs → in_order 0 es ≡ in_order 0 fs
unfolding AreApart AreInOrder in_order
in_order-alike es fs map map' same =
    same_order 256 0 (in_order_within 256 0 es) (in_order_within 256 0 fs)
    (within-ordered 256 0 es (IsMap-apart es map)) (within-ordered 256 0 fs (IsMap-apart fs map')) (record {
      there = λ e listed. within-there 256 0 fs e (same.there e (within-back 256 0 es e listed));
      back = λ e listed. within-there 256 0 es e (same.back e (within-back 256 0 fs e listed));
    })

within-backed : {B C : Type 0} (f : B → C) (h k : ℕ) (es : List (Entry B))
    → in_order_within h k (map (backed_by f) es) ≡ map (backed_by f) (in_order_within h k es)
unfolding in_order_within
within-backed f zero k es = refl
within-backed {B} {C} f (suc h) k es =
    let list : List (Entry C) → List (Entry C) = in_order_within h (suc k) in
    let side : (b : Bool) → list (half b k (map (backed_by f) es)) ≡ map (backed_by f) (in_order_within h (suc k) (half b k es)) =
    λ b. ap list (half-backed f b k es) ∙ within-backed f h (suc k) (half b k es) in
    ap (λ xs. xs ++ list (half true k (map (backed_by f) es))) (side false)
    ∙ ap (λ xs. map (backed_by f) (in_order_within h (suc k) (half false k es)) ++ xs) (side true)
    ∙ sym (map-append (backed_by f) (in_order_within h (suc k) (half false k es)) (in_order_within h (suc k) (half true k es)))

-- the list doesn't depend on the data behind the commitments
pub in_order-backed : {B C : Type 0} (f : B → C) (es : List (Entry B)) → in_order 0 (map (backed_by f) es) ≡ map (backed_by f) (in_order 0 es)
unfolding in_order
in_order-backed f es = within-backed f 256 0 es

-- what lists a map is the list of the map
pub Lists-in_order : (changes : List Change) (es : List Numbered) → IsMap es → Lists changes es → entries_in changes ≡ in_order 0 es
unfolding AreApart AreInOrder in_order
Lists-in_order changes es map lists =
    let apart = IsMap-apart es map in
    let there : (e : Numbered) → IsIn e (entries_in changes) → IsIn e (in_order_within 256 0 es) = λ e in_list. within-there 256 0 es e (lists.same.back e in_list) in
    let back : (e : Numbered) → IsIn e (in_order_within 256 0 es) → IsIn e (entries_in changes) = λ e in_list. lists.same.there e (within-back 256 0 es e in_list) in
    same_order 256 0 (entries_in changes) (in_order_within 256 0 es) lists.order (within-ordered 256 0 es apart) (record { there = there; back = back })

-- ---- what is listed, built again

ordered-apart : (h k : ℕ) (es : List Numbered) → InOrderWithin h k es → ApartWithin h k es
unfolding ApartWithin InOrderWithin
ordered-apart zero k es order = order
ordered-apart (suc h) k es order = (ordered-apart h (suc k) (half false k es) order.1, ordered-apart h (suc k) (half true k es) order.2)

-- the changes differ within the bits of an index
pub Lists-apart : (changes : List Change) (es : List Numbered) → Lists changes es → AreApart 0 (overwritten [] (entries_in changes))
unfolding AreApart AreInOrder
Lists-apart changes es lists = subst (AreApart 0) (sym (overwritten-empty (entries_in changes))) (ordered-apart 256 0 (entries_in changes) lists.order)

-- a part that represents only the changes represents the map
pub Lists-stands : (by : Hashing) (t : Table) (part : Part) (changes : List Change) (es : List Numbered)
    → IsMap es → Lists changes es → Stands by t part [] (overwritten [] (entries_in changes)) → Stands by t part [] es
Lists-stands by t part changes es map lists s =
    Stands-same by t part [] (entries_in changes) es (lists.once map) map (SameEntries-sym es (entries_in changes) lists.same)
    (subst (Stands by t part []) (overwritten-empty (entries_in changes)) s)
