-- Batches whose operations have indices: the indices that they are checked with, their first error, and what an install supplies.
use Rattle.std.proofs.Common.{◌≡◌, ◌≤◌, ◌<◌, ◌⊎◌, get_or, ℕ, zero, suc, ◌+◌, List, [], ◌∷◌, ◌++◌, length, map, take, drop, Bool, true, false, ◌||◌, refl, sym, ap, subst, ◌∙◌, arith, length-append, inl, inr, Option, Some, None, Result, Ok, Err, if◌then◌else◌, slice_get, nat_lt, nat_le}
use Rattle.std.specs.Prelude.{IfErr, IfOk, OnOk}
use Rattle.std.specs.Bool.{then_some}
use Rattle.std.specs.Option.{option_or}
use Rattle.std.specs.Result.{is_err}
use Rattle.std.proofs.lemmas.Bool.Decides.{nat_tests}
use Rattle.std.specs.BTreeMap.{insert_entry}
use Rattle.std.specs.Ordering.{match_ordering}
use Rattle.std.specs.declared.cmp.Ordering.{Ordering}
use Rattle.std.specs.declared.cmp.Ordering.TheVariants.{Equal, Greater, Less}
use Rattle.std.proofs.lemmas.List.{take-map}
use Rattle.std.proofs.Math.Path.{fun_ext}
use Rattle.coniks_proof.specs.declared.values.TheConstants.{MAX_OPERATIONS}
use Rattle.coniks_directory.specs.Judged.{IsJudgedFault}
use Rattle.coniks_directory.specs.declared.batch.BatchFault.{BatchFault}
use Rattle.coniks_directory.specs.declared.batch.OpFault.{OpFault}
use Rattle.coniks_directory.specs.declared.batch.BatchFault.TheVariants as batch_fault
use Rattle.coniks_directory.specs.declared.supplied_batch.SuppliedBatchFault.{SuppliedBatchFault}
use Rattle.coniks_directory.specs.declared.supplied_batch.SuppliedBatchFault.TheVariants.{Batch as InBatch, OtherIndex}
use Rattle.coniks_proof.specs.Batches.{name_length, key_length, name_twice, name_taken, name_unknown}
use Rattle.coniks_proof.specs.declared.values.Index.{Index}
use Rattle.coniks_directory.proofs.Words.{Fault, Grows, Op, Operation, Prepared, Record, Registered, Registry, Shown, State, Whole, at_drop_all, at_drop_more, bound_by, bytes_eq, bytes_eq-Decides, fault_from, fault_of, first_fault}
use Rattle.coniks_directory.proofs.Words.{get_or_from_slice_get, has_name, history_of, index_clash, is_eq, is_eq-slice_cmp, latest_registry, map-append, nat_cmp, operation_of, operations, or_cases, placed, registered_of, registry_after, slice_cmp, slice_get-get_or, slice_get_read, slice_get_within, zeros}
use Rattle.coniks_directory.specs.Supplied.{AgreeOn, Supplied, is_supplied, supplied_index}
use Rattle.coniks_directory.specs.SuppliedBatches.{AreOf, Indexed, IsEarliest, IsFresh, IsSuppliedFault, IsWithin, SuppliedFault, earlier_of, earliest, given_index, has_other, index_in, indexed, indices_by, indices_in, named_in, of_operation, operations_of, or_other, other_from, other_index, placed_fault}
use Rattle.coniks_directory.specs.SuppliedBatches.{IsSuppliedUpdate, LeavesIndices, put_index, put_indices, supplied_fault, supplied_fault_from, supplied_fault_is}
use Rattle.coniks_directory.specs.Updates.{IsNotNext, base_of}
use Rattle.coniks_directory.specs.declared.update.InstallFault.{InstallFault}
use Rattle.coniks_directory.specs.declared.update.InstallFault.TheVariants as install
use Rattle.coniks_directory.proofs.AgreementLemmas.{leaves_name}
use Rattle.coniks_directory.proofs.FreshLemmas.{Grows-trans, fresh_history, stays}
use Rattle.coniks_directory.proofs.LastLemmas.{take_next}
use Rattle.coniks_directory.proofs.SuppliedLemmas.{seen}
use Rattle.coniks_proof.proofs.Lemmas.{eq_apart, eq_same}

-- ---- one more index

-- an insert into a map puts the index into the map's view
module _ {K : Type 0} (key : K → List ℕ) (cmp : K → K → Ordering) (is : (x y : K) → cmp x y ≡ slice_cmp nat_cmp (key x) (key y)) (k : K) (v : Index) where
  pub seen_insert : (es : List (K × Index)) → map (seen key) (insert_entry cmp es k v) ≡ put_index (map (seen key) es) (key k) v.0
  seen_insert [] = refl
  seen_insert (e ∷ es) =
      (elim (cmp k e.0) as (λ o. cmp k e.0 ≡ o
      → map (seen key) (match_ordering o ((k, v) ∷ e ∷ es) ((e.0, v) ∷ es) (e ∷ insert_entry cmp es k v)) ≡ put_index (seen key e ∷ map (seen key) es) (key k) v.0) [
        | Less ↦ λ o. let same : slice_cmp nat_cmp (key k) (key e.0) ≡ Less = sym (is k e.0) ∙ o in rw same refl
        | Equal ↦ λ o. let same : slice_cmp nat_cmp (key k) (key e.0) ≡ Equal = sym (is k e.0) ∙ o in rw same refl
        | Greater ↦ λ o. let same : slice_cmp nat_cmp (key k) (key e.0) ≡ Greater = sym (is k e.0) ∙ o in rw same (ap (λ xs. seen key e ∷ xs) (seen_insert es))
      ]) refl

module _ (name index : List ℕ) where
  abbrev here : List ℕ → Bool
  here other = bytes_eq other name

  -- the name has the index, and each other name keeps its own
  pub index_put : (es : List Supplied) (other : List ℕ) → supplied_index (put_index es name index) other ≡ (if here other then index else supplied_index es other)
  index_put [] other = refl
  index_put (e ∷ es) other =
      (elim (slice_cmp nat_cmp name e.0) as
      (λ o. slice_cmp nat_cmp name e.0 ≡ o
      → supplied_index (match_ordering o ((name, index) ∷ e ∷ es) ((e.0, index) ∷ es) (e ∷ put_index es name index)) other ≡ (if here other then index else supplied_index (e ∷ es) other)) [
        | Less ↦ λ _. refl
        | Equal ↦ λ o.
            let same : name ≡ e.0 = (bytes_eq-Decides name e.0).0 (sym (is_eq-slice_cmp name e.0) ∙ ap is_eq o) in
            (elim (bytes_eq other e.0) as (λ b. bytes_eq other e.0 ≡ b
            → (if b then index else supplied_index es other) ≡ (if here other then index else (if b then e.1 else supplied_index es other))) [
              | true ↦ λ on. let on' : bytes_eq other name ≡ true = ap (bytes_eq other) same ∙ on in rw on' refl
              | false ↦ λ off. let off' : bytes_eq other name ≡ false = ap (bytes_eq other) same ∙ off in rw off' refl
            ]) refl
        | Greater ↦ λ o.
            let apart : bytes_eq name e.0 ≡ false = sym (is_eq-slice_cmp name e.0) ∙ ap is_eq o in
            (elim (bytes_eq other e.0) as (λ b. bytes_eq other e.0 ≡ b
            → (if b then e.1 else supplied_index (put_index es name index) other) ≡ (if here other then index else (if b then e.1 else supplied_index es other))) [
              | true ↦ λ on.
                  let at = (bytes_eq-Decides other e.0).0 on in
                  let off : bytes_eq other name ≡ false = eq_apart other name (λ both. let is_same = eq_same name e.0 (sym both ∙ at) in cc) in
                  rw off refl
              | false ↦ λ off. index_put es other
            ]) refl
      ]) refl

  -- and it is the only name that is added
  pub has_put : (es : List Supplied) (other : List ℕ) → is_supplied (put_index es name index) other ≡ here other || is_supplied es other
  has_put [] other = refl
  has_put (e ∷ es) other =
      (elim (slice_cmp nat_cmp name e.0) as
      (λ o. slice_cmp nat_cmp name e.0 ≡ o
      → is_supplied (match_ordering o ((name, index) ∷ e ∷ es) ((e.0, index) ∷ es) (e ∷ put_index es name index)) other ≡ here other || is_supplied (e ∷ es) other) [
        | Less ↦ λ _. refl
        | Equal ↦ λ o.
            let same : name ≡ e.0 = (bytes_eq-Decides name e.0).0 (sym (is_eq-slice_cmp name e.0) ∙ ap is_eq o) in
            let on : bytes_eq other name ≡ bytes_eq other e.0 = ap (bytes_eq other) same in
            rw on (elim (bytes_eq other e.0) as (λ b. b || is_supplied es other ≡ b || (b || is_supplied es other)) [ true ↦ refl | false ↦ refl ])
        | Greater ↦ λ _.
            rw (has_put es other)
            (elim (bytes_eq other e.0) as (λ b. b || (here other || is_supplied es other) ≡ here other || (b || is_supplied es other)) [
              | true ↦ elim (here other) as (λ c. true ≡ c || true) [ true ↦ refl | false ↦ refl ]
              | false ↦ refl
            ])
      ]) refl

-- ---- lists of names with indices

pub index_append : (xs ys : List Supplied) (name : List ℕ) → supplied_index (xs ++ ys) name ≡ (if is_supplied xs name then supplied_index xs name else supplied_index ys name)
index_append [] ys name = refl
index_append (x ∷ xs) ys name = elim (bytes_eq name x.0) as
    (λ b. (if b then x.1 else supplied_index (xs ++ ys) name) ≡ (if (b || is_supplied xs name) then (if b then x.1 else supplied_index xs name) else supplied_index ys name)) [
      | true ↦ refl
      | false ↦ index_append xs ys name
    ]

pub has_append : (xs ys : List Supplied) (name : List ℕ) → is_supplied (xs ++ ys) name ≡ is_supplied xs name || is_supplied ys name
has_append [] ys name = refl
has_append (x ∷ xs) ys name = elim (bytes_eq name x.0) as (λ b. b || is_supplied (xs ++ ys) name ≡ (b || is_supplied xs name) || is_supplied ys name) [
  | true ↦ refl
  | false ↦ has_append xs ys name
]

-- a name without an index has the index zeros
no_index : (xs : List Supplied) (name : List ℕ) → is_supplied xs name ≡ false → supplied_index xs name ≡ zeros
no_index [] name none = refl
no_index (x ∷ xs) name none = (elim (bytes_eq name x.0) as (λ b. b || is_supplied xs name ≡ false → (if b then x.1 else supplied_index xs name) ≡ zeros) [
  | true ↦ λ never. absurd (let no = never in cc)
  | false ↦ λ off. no_index xs name off
]) none

-- the names of a batch that aren't registered, each with its first index
module _ (registry : Registry) where
  pub none_fresh : IsFresh registry [] []
  none_fresh = record { none = λ name has. refl; names = λ name off. refl; indices = λ name off. refl }

  -- one more pair of another name changes nothing for a name
  more_names : (named : List Supplied) (n i name : List ℕ) → bytes_eq name n ≡ false → is_supplied (named ++ (n, i) ∷ []) name ≡ is_supplied named name
  more_names named n i name off = has_append named ((n, i) ∷ []) name ∙ rw off (elim (is_supplied named name) as (λ c. c || false ≡ c) [ true ↦ refl | false ↦ refl ])

  more_index : (named : List Supplied) (n i name : List ℕ) → bytes_eq name n ≡ false → supplied_index (named ++ (n, i) ∷ []) name ≡ supplied_index named name
  more_index named n i name off =
      index_append named ((n, i) ∷ []) name
      ∙ rw off ((elim (is_supplied named name) as (λ c. is_supplied named name ≡ c → (if c then supplied_index named name else zeros) ≡ supplied_index named name) [
        | true ↦ λ _. refl
        | false ↦ λ none. sym (no_index named name none)
      ]) refl)

  apart : (n name : List ℕ) (P : List ℕ → Bool) (a b : Bool) → P n ≡ a → P name ≡ b → (a ≡ b → ⊥) → bytes_eq name n ≡ false
  apart n name P a b at there never = eq_apart name n (λ same. never (sym at ∙ ap P (sym same) ∙ there))

  -- a registered name keeps its index
  pub fresh_skip : (fresh named : List Supplied) (n i : List ℕ) → has_name registry n ≡ true → IsFresh registry fresh named → IsFresh registry fresh (named ++ (n, i) ∷ [])
  fresh_skip fresh named n i has f = record {
    none = f.none;
    names = λ name off. f.names name off ∙ sym (more_names named n i name (apart n name (has_name registry) true false has off (λ same. let never = same in cc)));
    indices = λ name off. f.indices name off ∙ sym (more_index named n i name (apart n name (has_name registry) true false has off (λ same. let never = same in cc)));
  }

  -- if a name occurs twice, its first index counts
  pub fresh_retained : (fresh named : List Supplied) (n i : List ℕ) → has_name registry n ≡ false
      → is_supplied fresh n ≡ true → IsFresh registry fresh named → IsFresh registry fresh (named ++ (n, i) ∷ [])
  fresh_retained fresh named n i gone there f =
      let among : is_supplied named n ≡ true = sym (f.names n gone) ∙ there in
      record {
        none = f.none;
        names = λ name off. f.names name off ∙ sym
            (has_append named ((n, i) ∷ []) name ∙ (elim (bytes_eq name n) as (λ b. bytes_eq name n ≡ b → is_supplied named name || (b || false) ≡ is_supplied named name) [
              | true ↦ λ on. let here : is_supplied named name ≡ true = ap (is_supplied named) ((bytes_eq-Decides name n).0 on) ∙ among in rw here refl
              | false ↦ λ _. elim (is_supplied named name) as (λ c. c || false ≡ c) [ true ↦ refl | false ↦ refl ]
            ]) refl);
        indices = λ name off. f.indices name off ∙ sym
            (index_append named ((n, i) ∷ []) name ∙
            (elim (is_supplied named name) as (λ c. is_supplied named name ≡ c → (if c then supplied_index named name else supplied_index ((n, i) ∷ []) name) ≡ supplied_index named name) [
              | true ↦ λ _. refl
              | false ↦ λ none. let other = apart n name (is_supplied named) true false among none (λ same. let never = same in cc) in rw other (sym (no_index named name none))
            ]) refl);
      }

  -- any other name is new
  pub fresh_put : (fresh named : List Supplied) (n i : List ℕ) → has_name registry n ≡ false → is_supplied fresh n ≡ false
      → IsFresh registry fresh named → IsFresh registry (put_index fresh n i) (named ++ (n, i) ∷ [])
  fresh_put fresh named n i gone free f =
      let not_among : is_supplied named n ≡ false = sym (f.names n gone) ∙ free in
      record {
        none = λ name has.
            let other = apart n name (has_name registry) false true gone has (λ same. let never = same in cc) in
            has_put n i fresh name ∙ rw other (f.none name has);
        names = λ name off. has_put n i fresh name ∙ ap (λ c. bytes_eq name n || c) (f.names name off)
            ∙ (elim (bytes_eq name n) as (λ b. b || is_supplied named name ≡ is_supplied named name || (b || false)) [
              | true ↦ elim (is_supplied named name) as (λ c. true ≡ c || true) [ true ↦ refl | false ↦ refl ]
              | false ↦ elim (is_supplied named name) as (λ c. c ≡ c || false) [ true ↦ refl | false ↦ refl ]
            ])
            ∙ sym (has_append named ((n, i) ∷ []) name);
        indices = λ name off. index_put n i fresh name ∙ ap (λ c. if bytes_eq name n then i else c) (f.indices name off)
            ∙ sym (index_append named ((n, i) ∷ []) name ∙
            (elim (is_supplied named name) as
            (λ c. is_supplied named name ≡ c → (if c then supplied_index named name else (if bytes_eq name n then i else zeros)) ≡ (if bytes_eq name n then i else supplied_index named name)) [
              | true ↦ λ there. let other = apart n name (is_supplied named) false true not_among there (λ same. let never = same in cc) in rw other refl
              | false ↦ λ none. rw (no_index named name none) refl
            ]) refl);
      }

  -- then the indices are those with which the batch is checked
  pub fresh_index : (index_of : List ℕ → List ℕ) (fresh : List Supplied) (batch : List Indexed)
      → IsFresh registry fresh (named_in batch) → given_index fresh index_of ≡ index_in index_of registry batch
  fresh_index index_of fresh batch f = fun_ext
      (λ name. (elim (has_name registry name) as (λ b. has_name registry name ≡ b → given_index fresh index_of name ≡ (if b then index_of name else given_index (named_in batch) index_of name)) [
        | true ↦ λ has. rw (f.none name has) refl
        | false ↦ λ off. rw (f.names name off, f.indices name off) refl
      ]) refl)

  -- and a registered name keeps its index
  pub given_agree : (index_of : List ℕ → List ℕ) (batch : List Indexed) → AgreeOn index_of (index_in index_of registry batch) registry
  given_agree index_of batch name has = rw has refl

-- ---- operations with their indices

pub indexed_at : (ops : List Op) (indices : List Index) (i : ℕ) (op : Op) (index : Index) → slice_get ops i ≡ Some op → slice_get indices i ≡ Some index
    → slice_get (indexed ops indices) i ≡ Some (record { op = operation_of op; index = index.0 })
indexed_at [] indices i op index at there = absurd (let never = at in cc)
indexed_at (x ∷ ops) [] i op index at there = absurd (let never = there in cc)
indexed_at (x ∷ ops) (y ∷ indices) zero op index at there = let one : x ≡ op = cc in let two : y ≡ index = cc in rw (one, two) refl
indexed_at (x ∷ ops) (y ∷ indices) (suc i) op index at there = indexed_at ops indices i op index at there

-- as the code reads them
pub indexed_here : (ops : List Op) (indices : List Index) (i : ℕ) (op : Op) (missing : Index) → length ops ≡ length indices → i < length ops → op ≡ get_or ops i op
    → slice_get (indexed ops indices) i ≡ Some (record { op = operation_of op; index = (get_or indices i missing).0 })
indexed_here ops indices i op missing same below is =
    indexed_at ops indices i op (get_or indices i missing) (slice_get_read ops (length ops) i op refl below is) (slice_get-get_or indices i missing (omega (arith, same, below)))

pub indexed_length : (ops : List Op) (indices : List Index) → length ops ≡ length indices → length (indexed ops indices) ≡ length ops
indexed_length [] indices same = refl
indexed_length (x ∷ ops) [] same = absurd (let never = same in cc)
indexed_length (x ∷ ops) (y ∷ indices) same = ap suc (indexed_length ops indices (let less = same in omega arith))

pub indexed_operations : (ops : List Op) (indices : List Index) → length ops ≡ length indices → operations_of (indexed ops indices) ≡ operations ops
indexed_operations [] indices same = refl
indexed_operations (x ∷ ops) [] same = absurd (let never = same in cc)
indexed_operations (x ∷ ops) (y ∷ indices) same = ap (λ xs. operation_of x ∷ xs) (indexed_operations ops indices (let less = same in omega arith))

-- the names up to the next place
pub named_next : (xs : List Indexed) (i : ℕ) (x : Indexed) → slice_get xs i ≡ Some x → named_in (take (i + 1) xs) ≡ named_in (take i xs) ++ (x.op.name, x.index) ∷ []
named_next xs i x at = ap named_in (take_next xs i x at) ∙ map-append (λ (y : Indexed). (y.op.name, y.index)) (take i xs) (x ∷ [])

-- up to a place, the first operation whose name is registered with another index
abbrev pub IsFirstOther : (List ℕ → List ℕ) → Registry → List Indexed → ℕ → Option ℕ → Type 0
IsFirstOther index_of registry xs i other = other_from index_of registry 0 xs ≡ option_or other (other_from index_of registry i (drop i xs))

or_assoc : (x y z : Option ℕ) → option_or x (option_or y z) ≡ option_or (option_or x y) z
or_assoc None y z = refl
or_assoc (Some x) y z = refl

pub other-next : (index_of : List ℕ → List ℕ) (registry : Registry) (xs : List Indexed) (i : ℕ) (x : Indexed) (other : Option ℕ) → slice_get xs i ≡ Some x → IsFirstOther index_of registry xs i other
    → IsFirstOther index_of registry xs (i + 1) (option_or other (then_some (has_other index_of registry x) i))
other-next index_of registry xs i x other at first =
    let rest = other_from index_of registry (i + 1) (drop (i + 1) xs) in
    first
    ∙ ap (option_or other) (at_drop_more (other_from index_of registry i) xs i x (slice_get_within xs i x at)
    ∙ ap (λ y. other_from index_of registry i (y ∷ drop (i + 1) xs)) (get_or_from_slice_get xs i x x at)
    ∙ elim (has_other index_of registry x) as (λ b. (if b then Some i else rest) ≡ option_or (then_some b i) rest) [ true ↦ refl | false ↦ refl ])
    ∙ or_assoc other (then_some (has_other index_of registry x) i) rest

pub other-all : (index_of : List ℕ → List ℕ) (registry : Registry) (xs : List Indexed) (i : ℕ) (other : Option ℕ)
    → length xs ≤ i → IsFirstOther index_of registry xs i other → other ≡ other_from index_of registry 0 xs
other-all index_of registry xs i other past first =
    sym (first ∙ ap (option_or other) (at_drop_all (other_from index_of registry i) xs i past) ∙ elim other as (λ o. option_or o None ≡ o) [ None ↦ refl | Some p ↦ refl ])

-- ---- the first error

other_later : (index_of : List ℕ → List ℕ) (registry : Registry) (place : ℕ) (xs : List Indexed) (q : ℕ) → other_from index_of registry place xs ≡ Some q → place ≤ q
other_later index_of registry place [] q found = absurd (let never = found in cc)
other_later index_of registry place (x ∷ xs) q found = (elim (has_other index_of registry x) as (λ b. (if b then Some place else other_from index_of registry (place + 1) xs) ≡ Some q → place ≤ q) [
  | true ↦ λ here. let same : place ≡ q = cc in omega arith
  | false ↦ λ later. let after = other_later index_of registry (place + 1) xs q later in omega arith
]) found

fault_later : (index_of : List ℕ → List ℕ) (registry : Registry) (earlier : List Registered) (place : ℕ) (ops : List Operation) (at : ℕ × Fault)
    → fault_from index_of registry earlier place ops ≡ Some at → place ≤ at.0
fault_later index_of registry earlier place [] at found = absurd (let never = found in cc)
fault_later index_of registry earlier place (op ∷ ops) at found =
    (elim (fault_of index_of registry earlier op) as (λ f. placed place f (fault_from index_of registry (earlier ++ bound_by op ∷ []) (place + 1) ops) ≡ Some at → place ≤ at.0) [
      | None ↦ λ later. let after = fault_later index_of registry (earlier ++ bound_by op ∷ []) (place + 1) ops at later in omega arith
      | Some f ↦ λ here. let same : (place, f) ≡ at = cc in let first : place ≡ at.0 = ap (λ (x : ℕ × Fault). x.0) same in omega arith
    ]) found

-- an error comes before another index at a later place, and an index before an error at a later place
fault_first : (place : ℕ) (f : Fault) (q : ℕ) → place < q → earlier_of place f q ≡ (place, of_operation f)
fault_first place f q before =
    let lt : nat_lt place q ≡ true = grind (arith, nat_tests) in
    let le : nat_le place q ≡ true = grind (arith, nat_tests) in
    elim f as (λ g. earlier_of place g q ≡ (place, of_operation g)) [
      | name_length ↦ rw le refl
      | key_length ↦ rw le refl
      | name_twice ↦ rw le refl
      | name_taken ↦ rw le refl
      | name_unknown ↦ rw le refl
      | index_clash ↦ rw lt refl
    ]

other_first : (p : ℕ) (f : Fault) (q : ℕ) → q < p → earlier_of p f q ≡ (q, other_index)
other_first p f q before =
    let lt : nat_lt p q ≡ false = grind (arith, nat_tests) in
    let le : nat_le p q ≡ false = grind (arith, nat_tests) in
    elim f as (λ g. earlier_of p g q ≡ (q, other_index)) [
      | name_length ↦ rw le refl
      | key_length ↦ rw le refl
      | name_twice ↦ rw le refl
      | name_taken ↦ rw le refl
      | name_unknown ↦ rw le refl
      | index_clash ↦ rw lt refl
    ]

-- at the same place the clash comes last
at_once : (place : ℕ) (f : Fault) (later : Option (ℕ × SuppliedFault)) → placed_fault place (or_other true (Some f)) later ≡ Some (earlier_of place f place)
at_once place f later =
    let lt : nat_lt place place ≡ false = grind (arith, nat_tests) in
    let le : nat_le place place ≡ true = grind (arith, nat_tests) in
    elim f as (λ g. placed_fault place (or_other true (Some g)) later ≡ Some (earlier_of place g place)) [
      | name_length ↦ rw le refl
      | key_length ↦ rw le refl
      | name_twice ↦ rw le refl
      | name_taken ↦ rw le refl
      | name_unknown ↦ rw le refl
      | index_clash ↦ rw lt refl
    ]

module _ (index_of index : List ℕ → List ℕ) (registry : Registry) where
  -- the first error is the earliest one of the operations and of the other indices
  pub earliest_fault : (earlier : List Registered) (place : ℕ) (xs : List Indexed)
      → supplied_fault_from index_of registry index earlier place xs ≡ earliest (fault_from index registry earlier place (operations_of xs)) (other_from index_of registry place xs)
  earliest_fault earlier place [] = refl
  earliest_fault earlier place (x ∷ xs) =
      let next = earlier ++ bound_by x.op ∷ [] in
      let rest = earliest_fault next (place + 1) xs in
      let more = fault_from index registry next (place + 1) (operations_of xs) in
      let others = other_from index_of registry (place + 1) xs in
      let left = supplied_fault_from index_of registry index next (place + 1) xs in
      elim (fault_of index registry earlier x.op) as
      (λ f. placed_fault place (or_other (has_other index_of registry x) f) left ≡ earliest (placed place f more) (if has_other index_of registry x then Some place else others)) [
        | None ↦ elim (has_other index_of registry x) as (λ b. placed_fault place (or_other b None) left ≡ earliest more (if b then Some place else others)) [
          | true ↦ (elim more as (λ m. more ≡ m → Some (place, other_index) ≡ earliest m (Some place)) [
            | None ↦ λ _. refl
            | Some at ↦ λ found. ap Some (sym (other_first at.0 at.1 place (let late = fault_later index registry next (place + 1) (operations_of xs) at found in omega arith)))
          ]) refl
          | false ↦ rest
        ]
        | Some f ↦ elim (has_other index_of registry x) as (λ b. placed_fault place (or_other b (Some f)) left ≡ earliest (Some (place, f)) (if b then Some place else others)) [
          | true ↦ at_once place f left
          | false ↦ (elim others as (λ o. others ≡ o → placed_fault place (or_other false (Some f)) left ≡ earliest (Some (place, f)) o) [
            | None ↦ λ _. refl
            | Some q ↦ λ found. ap Some (sym (fault_first place f q (let late = other_later index_of registry (place + 1) xs q found in omega arith)))
          ]) refl
        ]
      ]

-- ---- why a batch isn't accepted

module _ (index_of : List ℕ → List ℕ) (registry : Registry) (ops : List Op) (indices : List Index) (long : length ops ≡ length indices) where
  abbrev batch : List Indexed
  batch = indexed ops indices

  -- the first error of the operations alone, and of the other indices
  faults : (other : Option ℕ) → other_from index_of registry 0 batch ≡ other
      → supplied_fault index_of registry batch ≡ earliest (first_fault (index_in index_of registry batch) registry (operations ops)) other
  faults other is =
      earliest_fault index_of (index_in index_of registry batch) registry [] 0 batch
      ∙ rw (is, indexed_operations ops indices long) refl

  pub long_fault : (fault : BatchFault) → (fault ≡ batch_fault.BatchTooLong) × (MAX_OPERATIONS < length ops) → IsSuppliedFault index_of registry batch (InBatch fault)
  long_fault fault too = rw (too.0, indexed_length ops indices long) too.1

  pub within_is : length ops ≤ MAX_OPERATIONS → IsWithin batch
  within_is few = rw (indexed_length ops indices long) few

  -- with another index at a place
  pub other_fault : (place : ℕ) (fault : SuppliedBatchFault) → IsWithin batch → other_from index_of registry 0 batch ≡ Some place
      → IsEarliest (index_in index_of registry batch) registry (operations ops) place fault → IsSuppliedFault index_of registry batch fault
  other_fault place (InBatch batch_fault.Workers) within other f = absurd f
  other_fault place (InBatch batch_fault.Depth) within other f = absurd f
  other_fault place (InBatch batch_fault.BatchTooLong) within other f = absurd f
  other_fault place (InBatch batch_fault.OutOfMemory) within other f = within
  other_fault place (InBatch (batch_fault.At position fault)) within other f = (within, faults (Some place) other ∙ f)
  other_fault place (OtherIndex position) within other f = (within, faults (Some place) other ∙ f)

  -- and without one
  pub no_fault : other_from index_of registry 0 batch ≡ None → first_fault (index_in index_of registry batch) registry (operations ops) ≡ None → supplied_fault index_of registry batch ≡ None
  no_fault other none = faults None other ∙ ap (λ f. earliest f None) none

  pub judged_fault : (fault : BatchFault) → IsWithin batch → other_from index_of registry 0 batch ≡ None
      → IsJudgedFault (index_in index_of registry batch) registry (operations ops) fault
      → IsSuppliedFault index_of registry batch (InBatch fault)
  judged_fault batch_fault.Workers within other f = absurd f
  judged_fault batch_fault.Depth within other f = absurd f
  judged_fault batch_fault.BatchTooLong within other f = absurd f
  judged_fault batch_fault.OutOfMemory within other f = within
  judged_fault (batch_fault.At position fault) within other f = (within, faults None other ∙ ap (λ g. earliest g None) f)

-- the error that reports the earliest one
pub reported_earliest : (index : List ℕ → List ℕ) (registry : Registry) (ops : List Operation) (place : ℕ) (fault : SuppliedBatchFault) (at : ℕ × SuppliedFault) → supplied_fault_is fault ≡ Some at
    → earliest (first_fault index registry ops) (Some place) ≡ Some at → IsEarliest index registry ops place fault
reported_earliest index registry ops place (InBatch batch_fault.Workers) at reported first = absurd (let never = reported in cc)
reported_earliest index registry ops place (InBatch batch_fault.Depth) at reported first = absurd (let never = reported in cc)
reported_earliest index registry ops place (InBatch batch_fault.BatchTooLong) at reported first = absurd (let never = reported in cc)
reported_earliest index registry ops place (InBatch batch_fault.OutOfMemory) at reported first = absurd (let never = reported in cc)
reported_earliest index registry ops place (InBatch (batch_fault.At position fault)) at reported first = first ∙ sym reported
reported_earliest index registry ops place (OtherIndex position) at reported first = first ∙ sym reported

-- an error that isn't an operation's is `OutOfMemory`
pub other_judged : (index : List ℕ → List ℕ) (registry : Registry) (ops : List Operation) (place : ℕ) (fault : BatchFault) → ((position : ℕ) (f : OpFault) → fault ≡ batch_fault.At position f → ⊥)
    → IsJudgedFault index registry ops fault → IsEarliest index registry ops place (InBatch fault)
other_judged index registry ops place batch_fault.Workers off f = f
other_judged index registry ops place batch_fault.Depth off f = f
other_judged index registry ops place batch_fault.BatchTooLong off f = f
other_judged index registry ops place batch_fault.OutOfMemory off f = tt
other_judged index registry ops place (batch_fault.At position fault) off f = absurd (off position fault refl)

-- ---- what an update holds

-- the indices of records are those of the operations
pub stored_is : (index_of : List ℕ → List ℕ) (records : List Record) (ops : List Operation)
    → map registered_of records ≡ map bound_by ops → AreOf index_of (indices_in records) → indices_in records ≡ indices_by index_of ops
stored_is index_of [] [] binds stored = refl
stored_is index_of [] (op ∷ ops) binds stored = absurd (let never = binds in cc)
stored_is index_of (r ∷ rs) [] binds stored = absurd (let never = binds in cc)
stored_is index_of (r ∷ rs) (op ∷ ops) binds stored =
    let first : registered_of r ≡ bound_by op = cc in
    let rest : map registered_of rs ≡ map bound_by ops = cc in
    let name : r.binding.name ≡ op.name = ap (λ (b : Registered). b.name) first in
    let index : r.index.0 ≡ index_of op.name = stored.0 ∙ ap index_of name in
    rw (name, index, stored_is index_of rs ops rest stored.1) refl

-- an update with its indices stays one while epochs are installed, if the registered names keep their indices
pub supplied_stays : (hash index_of also index : List ℕ → List ℕ) (s later : State) (p : Prepared) → Grows s later → AgreeOn index_of also (latest_registry (history_of s))
    → IsSuppliedUpdate hash index_of s p index → IsSuppliedUpdate hash also later p index
supplied_stays hash index_of also index s later p grows retained u = record {
  agree = λ base name has.
      let earlier = u.update.earlier in
      let since = Grows-trans earlier s later u.update.grows grows in
      let long = length-append s.epochs grows.more_epochs in
      let before : base_of p ≡ length s.epochs = omega (arith, base, ap length grows.epochs, long, ap length u.update.grows.epochs, length-append earlier.epochs u.update.grows.more_epochs, u.update.update.base) in
      let same : history_of later ≡ history_of s = fresh_history hash index earlier later p since u.update.update base ∙ sym (fresh_history hash index earlier s p u.update.grows u.update.update before) in
      let had : has_name (latest_registry (history_of s)) name ≡ true = subst (λ (h : List Shown). has_name (latest_registry h) name ≡ true) same has in
      sym (retained name had) ∙ u.agree before name had;
  update = stays hash index s later p grows u.update;
  stored = u.stored;
}

-- ---- what an install supplies

pub put-append : (source xs ys : List Supplied) → put_indices source (xs ++ ys) ≡ put_indices (put_indices source xs) ys
put-append source [] ys = refl
put-append source (x ∷ xs) ys = put-append (put_index source x.0 x.1) xs ys

pub put_next : (source : List Supplied) (records : List Record) (i : ℕ) (r : Record) → slice_get records i ≡ Some r
    → put_indices source (indices_in (take (i + 1) records)) ≡ put_index (put_indices source (indices_in (take i records))) r.binding.name r.index.0
put_next source records i r at =
    ap (put_indices source) (ap indices_in (take_next records i r at) ∙ map-append (λ (x : Record). (x.binding.name, x.index.0)) (take i records) (r ∷ []))
    ∙ put-append source (indices_in (take i records)) (indices_in (r ∷ []))

-- a name that has the function's index, or is among the pairs, has that index afterwards
pub put_of : (index_of : List ℕ → List ℕ) (ps source : List Supplied) (name : List ℕ) → AreOf index_of ps → (supplied_index source name ≡ index_of name) ⊎ (is_supplied ps name ≡ true)
    → supplied_index (put_indices source ps) name ≡ index_of name
put_of index_of [] source name stored (inl at) = at
put_of index_of [] source name stored (inr never) = absurd (let no = never in cc)
put_of index_of (p ∷ ps) source name stored known =
    put_of index_of ps (put_index source p.0 p.1) name stored.1
    ((elim (bytes_eq name p.0) as (λ b. bytes_eq name p.0 ≡ b → (supplied_index (put_index source p.0 p.1) name ≡ index_of name) ⊎ (is_supplied ps name ≡ true)) [
      | true ↦ λ on. inl (index_put p.0 p.1 source name ∙ rw on (stored.0 ∙ ap index_of (sym ((bytes_eq-Decides name p.0).0 on))))
      | false ↦ λ off. elim known [
        | inl at ↦ inl (index_put p.0 p.1 source name ∙ rw off at)
        | inr there ↦ inr (rw off at there)
      ]
    ]) refl)

-- the names of records are those of their bindings
pub has_indices : (records : List Record) (name : List ℕ) → is_supplied (indices_in records) name ≡ has_name (map registered_of records) name
has_indices [] name = refl
has_indices (r ∷ rs) name =
    let same : bytes_eq name r.binding.name ≡ bytes_eq r.binding.name name = (elim (bytes_eq r.binding.name name) as (λ b. bytes_eq r.binding.name name ≡ b → bytes_eq name r.binding.name ≡ b) [
      | true ↦ λ on. eq_same name r.binding.name (sym ((bytes_eq-Decides r.binding.name name).0 on))
      | false ↦ λ off. eq_apart name r.binding.name (λ at. let on = eq_same r.binding.name name (sym at) in cc)
    ]) refl in
    rw (same, has_indices rs name) refl

-- once an update's indices are supplied, the source has the index for each name after the update with which it was prepared
pub supplied_all : (hash index_of : List ℕ → List ℕ) (source : List Supplied) (s : State) (p : Prepared) → Whole hash (supplied_index source) s
    → AgreeOn (supplied_index source) index_of (latest_registry (history_of s)) → AreOf index_of (indices_in p.records.items)
    → AgreeOn index_of (supplied_index (put_indices source (indices_in p.records.items))) (registry_after s p)
supplied_all hash index_of source s p whole agree stored name has =
    let known = or_cases (has_name (latest_registry (history_of s)) name) (has_name (map registered_of p.records.items) name) (sym (leaves_name hash (supplied_index source) s p name whole) ∙ has) in
    sym (put_of index_of (indices_in p.records.items) source name stored (elim known [
      | inl old ↦ inl (agree name old)
      | inr new ↦ inr (has_indices p.records.items name ∙ new)
    ]))

-- the source keeps the indices of the registered names
pub retained_agree : (index : List ℕ → List ℕ) (source ps : List Supplied) (registry : Registry) → AgreeOn (supplied_index source) index registry → AreOf index ps
    → AgreeOn (supplied_index source) (supplied_index (put_indices source ps)) registry
retained_agree index source ps registry agree stored name has = agree name has ∙ sym (put_of index ps source name stored (inl (agree name has)))

pub stored_take : (index : List ℕ → List ℕ) (records : List Record) (n : ℕ) → AreOf index (indices_in records) → AreOf index (indices_in (take n records))
stored_take index records zero stored = tt
stored_take index [] (suc n) stored = tt
stored_take index (r ∷ rs) (suc n) stored = (stored.0, stored_take index rs n stored.1)

-- ---- what a refused install leaves

-- an error before they are supplied
pub left_none : (s : State) (base t : ℕ) (given old : List Supplied) (fault : InstallFault) → IsNotNext s base t fault → LeavesIndices given old old fault
left_none s base t given old (install.Stale latest) why = refl
left_none s base t given old (install.EpochNotLater latest) why = refl
left_none s base t given old install.BoardFull why = refl
left_none s base t given old install.OutOfMemory why = (0, refl)
left_none s base t given old install.SignerRefused why = refl

-- an error while they are supplied
pub left_some : (records : List Record) (old : List Supplied) (n : ℕ) → LeavesIndices (indices_in records) old (put_indices old (indices_in (take n records))) install.OutOfMemory
left_some records old n = (n, ap (put_indices old) (sym (take-map (λ (r : Record). (r.binding.name, r.index.0)) n records)))

-- what follows from a property of a result's value holds of the value
pub if_ok-map : {T E : Type 0} (r : Result T E) (P Q : T → Type 0) → ((x : T) → P x → Q x) → IfOk r P → IfOk r Q
if_ok-map (Ok x) P Q more is = more x is
if_ok-map (Err e) P Q more is = is

pub if_err-map : {T E : Type 0} (r : Result T E) (P Q : E → Type 0) → ((e : E) → P e → Q e) → IfErr r P → IfErr r Q
if_err-map (Ok x) P Q more is = is
if_err-map (Err e) P Q more is = more e is

pub of_ok : {T E : Type 0} (r : Result T E) (P : Type 0) → false ≡ is_err r → OnOk r P → P
of_ok (Ok x) P off is = is
of_ok (Err e) P off is = absurd (let never = off in cc)
