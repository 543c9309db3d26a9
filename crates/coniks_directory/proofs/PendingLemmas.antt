-- The records of the checked operations, with one more and without the last ones.
use Rattle.std.proofs.Common.{◌≡◌, ◌≢◌, ◌≤◌, ◌⊎◌, ℕ, zero, suc, ◌+◌, ◌-◌, List, [], ◌∷◌, ◌++◌, length, map, take, arith, length-append, true, false, refl, sym, ap, subst, ◌∙◌, cond, inl, inr, Some, None, slice_get}
use Rattle.std.proofs.lemmas.Bool.{cases_lt}
use Rattle.std.proofs.lemmas.List.{take-map}
use Rattle.coniks_directory.proofs.Words.{ArePendingRecords, BTreeMap, Entry, IsFree, IsBoundAt, IsIn, IsIndex, IsMap, IsNew, IsPendingRecord, IsOrdered, IsStrictlySortedBy, Record, Registered}
use Rattle.coniks_directory.proofs.Words.{btree_map_len, bytes_eq, bytes_eq-Decides, false_from_ne_true, has_name, is_eq, is_eq-slice_cmp}
use Rattle.coniks_directory.proofs.Words.{entries_of, entry_of, is_at, keys_of, length-map, lookup, map-append, nat_cmp, number_at, registered_of, slice_cmp, slice_get_within, take-append-le, take_all}
use Rattle.coniks_tree.proofs.Lemmas.{Extends-append, get-last, get-push}
use Rattle.coniks_proof.proofs.Lemmas.{IsMap-one_more, eq_apart, eq_same, has_of, named_of}

IsNew-front : (index : List ℕ) (es fs : List (Entry Registered)) → IsNew index (es ++ fs) → IsNew index es
IsNew-front index [] fs new = tt
IsNew-front index (e ∷ es) fs new = (new.0, IsNew-front index es fs new.1)

-- the first entries of a map are one
IsMap-front : (es fs : List (Entry Registered)) → IsMap (es ++ fs) → IsMap es
IsMap-front [] fs is = tt
IsMap-front (e ∷ es) fs is = (is.0, IsNew-front e.index es fs is.1, IsMap-front es fs is.2)

-- the first elements of a list, as many as there are in these
pub front : {T : Type 0} (all xs more : List T) (count : ℕ) → all ≡ xs ++ more → length xs ≡ count → xs ≡ take count all
front all xs more count is long = sym (ap (take count) is ∙ take-append-le count xs more (omega arith) ∙ take_all count xs (omega arith))

-- what is left of a list after its last elements were removed one by one, up to a place beyond the end
pub left_of : {T : Type 0} (all xs more : List T) (count place : ℕ) → all ≡ xs ++ more → length xs + (place - count) ≡ length all → length all ≤ place
    → (place ≡ count) ⊎ (place ≤ length all) → xs ≡ take count all
left_of all xs more count place is fewer past bound = elim (cases_lt count (length all)) [
  | inl below ↦ front all xs more count is (elim bound [ inl here ↦ omega arith | inr within ↦ omega arith ])
  | inr over ↦
      let long : length xs ≡ length all = elim bound [ inl here ↦ omega arith | inr within ↦ omega arith ] in
      front all xs more (length all) is long ∙ take_all (length all) all (omega arith) ∙ sym (take_all count all over)
]

-- a binding of the records is that of one of them
pub in_records : (records : List Record) (b : Registered) → IsIn b (map registered_of records) → (n : ℕ) × (r : Record) × (slice_get records n ≡ Some r) × (registered_of r ≡ b)
in_records [] b there = absurd there
in_records (r ∷ rs) b (inl here) = (0, r, refl, here)
in_records (r ∷ rs) b (inr later) = let k = in_records rs b later in (suc k.0, k.1, k.2, k.3)

pub record_in : (records : List Record) (n : ℕ) (r : Record) → slice_get records n ≡ Some r → IsIn (registered_of r) (map registered_of records)
record_in [] n r at = absurd (let never = at in cc)
record_in (x ∷ xs) zero r at = let same : x ≡ r = cc in inl (ap registered_of same)
record_in (x ∷ xs) (suc n) r at = inr (record_in xs n r at)

module _ (hash index_of : List ℕ → List ℕ) (bound : List Registered) (records : List Record) (numbers : BTreeMap (List ℕ) ℕ) (s : ArePendingRecords hash index_of bound records numbers) where
  -- the record of a bound name
  bound_record : (name : List ℕ) → has_name bound name ≡ true → (n : ℕ) × (r : Record) × (slice_get records n ≡ Some r) × (r.binding.name ≡ name)
  bound_record name h =
      let b = named_of bound name h in
      let k = in_records records b.bound (subst (λ (bs : List Registered). IsIn b.bound bs) (sym s.binds) b.there) in
      (k.0, k.1, k.2, ap (λ (x : Registered). x.name) k.3 ∙ b.named)

  has_record : (n : ℕ) (r : Record) → slice_get records n ≡ Some r → has_name bound r.binding.name ≡ true
  has_record n r at = has_of bound r.binding.name (registered_of r) (subst (λ (bs : List Registered). IsIn (registered_of r) bs) s.binds (record_in records n r at)) refl

  pub drafts_free : (i : List ℕ) → number_at numbers i ≡ None → IsFree index_of bound i
  drafts_free i none = λ name at. false_from_ne_true (has_name bound name) (λ h.
      let k = bound_record name h in
      let index-is : k.1.index.0 ≡ i = (s.drafted k.0 k.1 k.2).indexed ∙ ap index_of k.3 ∙ at in
      let some : number_at numbers i ≡ Some k.0 = subst (λ x. number_at numbers x ≡ Some k.0) index-is (s.all k.0 k.1 k.2) in
      cc)

  pub drafts_stored : (i : List ℕ) (n : ℕ) (r : Record) → number_at numbers i ≡ Some n → slice_get records n ≡ Some r → IsBoundAt index_of bound i (registered_of r)
  drafts_stored i n r some at =
      let k = s.retained i n some in
      let k-at = k.1 in
      let same : k.0 ≡ r = cc in
      let index-is : r.index.0 ≡ i = subst (λ (x : Record). x.index.0 ≡ i) same k.2 in
      record {
        at = sym (s.drafted n r at).indexed ∙ index-is;
        has = has_record n r at;
        only = λ name there h.
            let m = bound_record name h in
            let m-index : m.1.index.0 ≡ i = (s.drafted m.0 m.1 m.2).indexed ∙ ap index_of m.3 ∙ there in
            let also : number_at numbers i ≡ Some m.0 = subst (λ x. number_at numbers x ≡ Some m.0) m-index (s.all m.0 m.1 m.2) in
            let number : m.0 ≡ n = cc in
            let here : slice_get records n ≡ Some m.1 = subst (λ x. slice_get records x ≡ Some m.1) number m.2 in
            let one : m.1 ≡ r = cc in
            sym m.3 ∙ ap (λ (x : Record). x.binding.name) one;
      }

  -- no number is stored at an index that no name has
  pub free_none : (i : List ℕ) → IsFree index_of bound i → number_at numbers i ≡ None
  free_none i free = (elim (number_at numbers i) as (λ o. number_at numbers i ≡ o → number_at numbers i ≡ None) [
    | None ↦ λ is. is
    | Some n ↦ λ is.
        let k = s.retained i n is in
        let gone = free k.0.binding.name (sym (s.drafted n k.0 k.1).indexed ∙ k.2) in
        let has = has_record n k.0 k.1 in
        absurd (let never = sym has ∙ gone in cc)
  ]) refl

  -- one more record
  pub drafts_next : (numbers' : BTreeMap (List ℕ) ℕ) (r : Record) → IsPendingRecord index_of r → IsFree index_of bound r.index.0
      → ((i : List ℕ) → number_at numbers' i ≡ cond (is_eq (slice_cmp nat_cmp r.index.0 i)) (Some (length records)) (number_at numbers i))
      → IsOrdered (slice_cmp nat_cmp) numbers' → btree_map_len numbers' ≡ btree_map_len numbers + 1 → ArePendingRecords hash index_of (bound ++ registered_of r ∷ []) (records ++ r ∷ []) numbers'
  drafts_next numbers' r drafted free updates ordered longer =
      let here : number_at numbers' r.index.0 ≡ Some (length records) = updates r.index.0 ∙ rw (is_eq-slice_cmp r.index.0 r.index.0, eq_same r.index.0 r.index.0 refl) refl in
      let other : (i : List ℕ) → r.index.0 ≢ i → number_at numbers' i ≡ number_at numbers i = λ i apart. updates i ∙ rw (is_eq-slice_cmp r.index.0 i, eq_apart r.index.0 i apart) refl in
      let fresh : (n : ℕ) (x : Record) → slice_get records n ≡ Some x → r.index.0 ≢ x.index.0 = λ n x at same.
      let gone = free x.binding.name (sym (s.drafted n x at).indexed ∙ sym same) in let has = has_record n x at in cc in
      record {
        binds = map-append registered_of records (r ∷ []) ∙ ap (λ (bs : List Registered). bs ++ registered_of r ∷ []) s.binds;
        drafted = λ n x at. elim (get-push records r n x at) [ inl old ↦ s.drafted n x old | inr new ↦ subst (IsPendingRecord index_of) new.1 drafted ];
        retained = λ i n some. (elim (bytes_eq r.index.0 i) as (λ v. bytes_eq r.index.0 i ≡ v → (x : Record) × (slice_get (records ++ r ∷ []) n ≡ Some x) × (x.index.0 ≡ i)) [
          | true ↦ λ on.
              let same : r.index.0 ≡ i = (bytes_eq-Decides r.index.0 i).0 on in
              let number : length records ≡ n = (let there = rw same at here in cc) in
              (r, rw (← number) (get-last records r), same)
          | false ↦ λ off.
              let old : number_at numbers i ≡ Some n = sym (other i (λ same. let on = eq_same r.index.0 i same in cc)) ∙ some in
              let k = s.retained i n old in
              (k.0, Extends-append records (r ∷ []) n k.0 k.1, k.2)
        ]) refl;
        all = λ n x at. elim (get-push records r n x at) [
          | inl old ↦ other x.index.0 (fresh n x old) ∙ s.all n x old
          | inr new ↦ subst (λ (y : Record). number_at numbers' y.index.0 ≡ Some n) new.1 (here ∙ ap (λ k. Some k) (sym new.0))
        ];
        ordered = ordered;
        counted = let long = s.counted in omega (arith, length-append records (r ∷ []));
        distinct = IsMap-one_more hash index_of bound (registered_of r) s.distinct (subst IsIndex drafted.indexed drafted.ranged) (λ c there same.
            let gone = free c.name (same ∙ sym drafted.indexed) in let has = has_of bound c.name c there refl in cc);
      }

-- the same records under the same numbers
pub same_pending : (hash index_of : List ℕ → List ℕ) (bound : List Registered) (records records' : List Record) (numbers numbers' : BTreeMap (List ℕ) ℕ)
    → records' ≡ records → numbers'.entries ≡ numbers.entries → ArePendingRecords hash index_of bound records numbers → ArePendingRecords hash index_of bound records' numbers'
same_pending hash index_of bound records records' numbers numbers' same entries s =
    let at : (i : List ℕ) → number_at numbers' i ≡ number_at numbers i = λ i. ap (lookup (is_at (slice_cmp nat_cmp i))) entries in
    subst (λ (rs : List Record). ArePendingRecords hash index_of bound rs numbers') (sym same)
    (record {
      binds = s.binds;
      drafted = s.drafted;
      retained = λ i n some. s.retained i n (sym (at i) ∙ some);
      all = λ n r there. at r.index.0 ∙ s.all n r there;
      ordered = subst (λ (es : List (List ℕ × ℕ)). IsStrictlySortedBy (slice_cmp nat_cmp) (keys_of es)) (sym entries) s.ordered;
      counted = ap length entries ∙ s.counted;
      distinct = s.distinct;
    })

-- without the last record
pub drafts_before : (hash index_of : List ℕ → List ℕ) (bound : List Registered) (all records : List Record) (r : Record) (numbers numbers' : BTreeMap (List ℕ) ℕ)
    → all ≡ records ++ r ∷ [] → ((i : List ℕ) → number_at numbers' i ≡ cond (is_eq (slice_cmp nat_cmp r.index.0 i)) None (number_at numbers i))
    → IsOrdered (slice_cmp nat_cmp) numbers' → (number_at numbers r.index.0 ≡ Some (length records) → btree_map_len numbers' + 1 ≡ btree_map_len numbers)
    → ArePendingRecords hash index_of bound all numbers → ArePendingRecords hash index_of (map registered_of records) records numbers'
drafts_before hash index_of bound all records r numbers numbers' is updates ordered fewer given =
    let s : ArePendingRecords hash index_of bound (records ++ r ∷ []) numbers = subst (λ (rs : List Record). ArePendingRecords hash index_of bound rs numbers) is given in
    let last : number_at numbers r.index.0 ≡ Some (length records) = s.all (length records) r (get-last records r) in
    let retained_at : (i : List ℕ) → r.index.0 ≢ i → number_at numbers' i ≡ number_at numbers i =
    λ i apart. updates i ∙ rw (is_eq-slice_cmp r.index.0 i, eq_apart r.index.0 i apart) refl in
    record {
      binds = refl;
      drafted = λ n x at. s.drafted n x (Extends-append records (r ∷ []) n x at);
      retained = λ i n some. (elim (bytes_eq r.index.0 i) as (λ v. bytes_eq r.index.0 i ≡ v → (x : Record) × (slice_get records n ≡ Some x) × (x.index.0 ≡ i)) [
        | true ↦ λ on.
            let gone : number_at numbers' i ≡ None = updates i ∙ rw (is_eq-slice_cmp r.index.0 i, on) refl in
            absurd (let never = sym gone ∙ some in cc)
        | false ↦ λ off.
            let apart : r.index.0 ≢ i = λ same. let on = eq_same r.index.0 i same in cc in
            let k = s.retained i n (sym (retained_at i apart) ∙ some) in
            (elim (get-push records r n k.0 k.1) [
              | inl old ↦ (k.0, old, k.2)
              | inr new ↦ absurd (apart (ap (λ (y : Record). y.index.0) new.1 ∙ k.2))
            ])
      ]) refl;
      all = λ n x at.
          let there = s.all n x (Extends-append records (r ∷ []) n x at) in
          let within = slice_get_within records n x at in
          retained_at x.index.0 (λ same. let one : number_at numbers x.index.0 ≡ Some (length records) = subst (λ j. number_at numbers j ≡ Some (length records)) same last in
          let number : n ≡ length records = cc in omega arith) ∙ there;
      ordered = ordered;
      counted = let long = s.counted in let less = fewer last in omega (arith, length-append records (r ∷ []));
      distinct = IsMap-front (entries_of hash index_of (map registered_of records)) (entries_of hash index_of (registered_of r ∷ []))
          (subst (λ (es : List (Entry Registered)). IsMap es)
          (ap (entries_of hash index_of) (sym s.binds ∙ map-append registered_of records (r ∷ [])) ∙ map-append (entry_of hash index_of) (map registered_of records) (registered_of r ∷ []))
          s.distinct);
    }

-- the records bind what they bind
pub by_records : (hash index_of : List ℕ → List ℕ) (bound : List Registered) (records : List Record) (numbers : BTreeMap (List ℕ) ℕ)
    → ArePendingRecords hash index_of bound records numbers → ArePendingRecords hash index_of (map registered_of records) records numbers
by_records hash index_of bound records numbers s = subst (λ (bs : List Registered). ArePendingRecords hash index_of bs records numbers) (sym s.binds) s

-- the first records bind what was bound first
pub front_pending : (hash index_of : List ℕ → List ℕ) (bound more : List Registered) (all records : List Record) (count : ℕ) (numbers : BTreeMap (List ℕ) ℕ)
    → map registered_of all ≡ bound ++ more → length bound ≡ count → records ≡ take count all
    → ArePendingRecords hash index_of (map registered_of records) records numbers → ArePendingRecords hash index_of bound records numbers
front_pending hash index_of bound more all records count numbers binds long is s =
    let same : map registered_of records ≡ bound =
    ap (map registered_of) is ∙ sym (take-map registered_of count all) ∙ sym (front (map registered_of all) bound more count binds long) in
    subst (λ (bs : List Registered). ArePendingRecords hash index_of bs records numbers) same s

-- what is left once the records after the earlier ones are removed
pub rolled_back : (hash index_of : List ℕ → List ℕ) (bound more : List Registered) (old all records : List Record) (numbers later last : BTreeMap (List ℕ) ℕ) (count : ℕ)
    → ArePendingRecords hash index_of bound old numbers → ArePendingRecords hash index_of (bound ++ more) all later → count ≡ length old → records ≡ take count all
    → ArePendingRecords hash index_of (map registered_of records) records last → ArePendingRecords hash index_of bound records last
rolled_back hash index_of bound more old all records numbers later last count was s many is retained =
    let long : length bound ≡ count = sym (ap length was.binds) ∙ length-map old registered_of ∙ sym many in
    front_pending hash index_of bound more all records count last s.binds long is retained
