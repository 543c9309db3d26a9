-- Batches without error, operation by operation and as a whole.
use Rattle.std.proofs.Common.{◌≡◌, ℕ, ◌+◌, List, [], ◌∷◌, ◌++◌, length, map, Bool, true, false, refl, sym, ap, subst, ◌∙◌, not, ◌||◌, ◌&&◌, ◌⊎◌, nat_lt, nat_le, inl, inr, Option, Some, None, if◌then◌else◌, append_assoc}
use Rattle.std.proofs.lemmas.Bool.{and_parts, false_from_ne_true, le-leb, leb-true, lt-ltb, ltb-true, not-false, or_cases, or_left, or_right}
use Rattle.std.proofs.lemmas.List.{append-nil}
use Rattle.std.specs.Str.{bytes_eq}
use Rattle.std.proofs.lemmas.Slice.Eq.{bytes_eq-Decides}
use Rattle.coniks_proof.specs.Batches.{AreOnce, Fault, Kind, MayFollow, Operation, Suits, after, bound_by, change, clashes, fault_from, fault_of, first_fault, fits, index_clash, key_length, kind_fault, name_length, name_twice, or_else, placed, register}
use Rattle.coniks_proof.specs.Entries.{Entry, IsIn}
use Rattle.coniks_proof.specs.Maps.{IsMap}
use Rattle.coniks_proof.specs.Registry.{AreWithin, HaveOwnIndices, IsLength, Registered, Registry, entries_of, entry_of, has_name}
use Rattle.coniks_proof.specs.declared.values.TheConstants.{MAX_KEY, MAX_NAME}
use Rattle.coniks_proof.proofs.MapLemmas.{same_entry}
use Rattle.coniks_proof.proofs.RegistryLemmas.{entry_in}
use Rattle.coniks_proof.proofs.NameLemmas.{clash_found, clash_made, eq_apart, eq_same, has_name-append, has_of, in_overlaid, named_of}

-- ---- an operation without error

-- none of the errors applies to the operation, after earlier ones bound these
pub record IsClear (index_of : List ℕ → List ℕ) (registry : Registry) (earlier : List Registered) (op : Operation) : Type 0 where
  pub named : fits MAX_NAME op.name ≡ true
  pub keyed : fits MAX_KEY op.key ≡ true
  pub once : has_name earlier op.name ≡ false
  pub kind : kind_fault op.kind (has_name registry op.name) ≡ None
  pub apart : clashes index_of (registry ++ earlier) op.name ≡ false

if_none : (b : Bool) (x : Fault) (rest : Option Fault) → (if b then Some x else rest) ≡ None → (b ≡ false) × (rest ≡ None)
if_none true x rest h = absurd (let never = h in cc)
if_none false x rest h = (refl, h)

else_none : (o p : Option Fault) → or_else o p ≡ None → (o ≡ None) × (p ≡ None)
else_none (Some x) p h = absurd (let never = h in cc)
else_none None p h = (refl, h)

pub clear_of : (index_of : List ℕ → List ℕ) (registry : Registry) (earlier : List Registered) (op : Operation) → fault_of index_of registry earlier op ≡ None → IsClear index_of registry earlier op
clear_of index_of registry earlier op none =
    let a = if_none (not (fits MAX_NAME op.name)) name_length _ none in
    let b = if_none (not (fits MAX_KEY op.key)) key_length _ a.1 in
    let c = if_none (has_name earlier op.name) name_twice _ b.1 in
    let d = else_none (kind_fault op.kind (has_name registry op.name)) _ c.1 in
    let e = if_none (clashes index_of (registry ++ earlier) op.name) index_clash None d.1 in
    record { named = not-false (fits MAX_NAME op.name) a.0; keyed = not-false (fits MAX_KEY op.key) b.0; once = c.0; kind = d.0; apart = e.0 }

none_of : (index_of : List ℕ → List ℕ) (registry : Registry) (earlier : List Registered) (op : Operation) → IsClear index_of registry earlier op → fault_of index_of registry earlier op ≡ None
none_of index_of registry earlier op c = rw (c.named, c.keyed, c.once, c.kind, c.apart) refl

pub placed_none : (place : ℕ) (fault : Option Fault) (later : Option (ℕ × Fault)) → placed place fault later ≡ None → (fault ≡ None) × (later ≡ None)
placed_none place (Some x) later h = absurd (let never = h in cc)
placed_none place None later h = (refl, h)

-- ---- lengths, kinds and names

length_of : (most : ℕ) (bytes : List ℕ) → fits most bytes ≡ true → IsLength most bytes
length_of most bytes on = let both = and_parts (nat_lt 0 (length bytes)) (nat_le (length bytes) most) on in (ltb-true 0 (length bytes) both.0, leb-true (length bytes) most both.1)

fits_of : (most : ℕ) (bytes : List ℕ) → IsLength most bytes → fits most bytes ≡ true
fits_of most bytes is = ap (λ v. v && nat_le (length bytes) most) (lt-ltb 0 (length bytes) is.0) ∙ le-leb (length bytes) most is.1

suits_of : (kind : Kind) (present : Bool) → kind_fault kind present ≡ None → Suits kind present
suits_of register true h = absurd (let never = h in cc)
suits_of register false h = refl
suits_of change true h = refl
suits_of change false h = absurd (let never = h in cc)

suited : (kind : Kind) (present : Bool) → Suits kind present → kind_fault kind present ≡ None
suited register true h = absurd (let never = h in cc)
suited register false h = refl
suited change true h = refl
suited change false h = absurd (let never = h in cc)

-- a name that the later ones don't have isn't that of one of them
other_name : (x y : List ℕ) → bytes_eq x y ≡ false → bytes_eq y x ≡ false
other_name x y off = eq_apart y x (λ same. let on = eq_same x y (sym same) in cc)

-- ---- indices of their own

-- one more name, with which no other has its index
module _ (index_of : List ℕ → List ℕ) (names : Registry) (b : Registered) where
  of_last : (x : List ℕ) → has_name (names ++ b ∷ []) x ≡ true → (has_name names x ≡ true) ⊎ (b.name ≡ x)
  of_last x has = elim (or_cases (has_name names x) (bytes_eq b.name x || false) (sym (has_name-append names (b ∷ []) x) ∙ has)) [
    | inl old ↦ inl old
    | inr new ↦ elim (or_cases (bytes_eq b.name x) false new) [ inl on ↦ inr ((bytes_eq-Decides b.name x).0 on) | inr never ↦ absurd (let h = never in cc) ]
  ]

  no_clash : clashes index_of names b.name ≡ false → (x : List ℕ) → has_name names x ≡ true → index_of x ≡ index_of b.name → x ≡ b.name
  no_clash off x has at =
      (elim (bytes_eq x b.name) as (λ v. bytes_eq x b.name ≡ v → x ≡ b.name) [
        | true ↦ λ on. (bytes_eq-Decides x b.name).0 on
        | false ↦ λ differ. absurd (let on = clash_made index_of names b.name (record { other = x; at = at; there = has; apart = λ same. let on = eq_same x b.name same in cc }) in cc)
      ]) refl

  one_more : HaveOwnIndices index_of names → clashes index_of names b.name ≡ false → HaveOwnIndices index_of (names ++ b ∷ [])
  one_more own off x y has_x has_y at = elim (of_last x has_x) [
    | inl old_x ↦ elim (of_last y has_y) [
      | inl old_y ↦ own x y old_x old_y at
      | inr new_y ↦ no_clash off x old_x (at ∙ ap index_of (sym new_y)) ∙ new_y
    ]
    | inr new_x ↦ elim (of_last y has_y) [
      | inl old_y ↦ sym (no_clash off y old_y (sym at ∙ ap index_of (sym new_x)) ∙ new_x)
      | inr new_y ↦ sym new_x ∙ new_y
    ]
  ]

-- ---- the operations of a batch in turn

module _ (index_of : List ℕ → List ℕ) (registry : Registry) where
  -- each operation is clear after those before it
  abbrev AreClear : List Registered → List Operation → Type 0
  AreClear earlier [] = Unit {0}
  AreClear earlier (op ∷ ops) = IsClear index_of registry earlier op × AreClear (earlier ++ bound_by op ∷ []) ops

  clear_from : (earlier : List Registered) (place : ℕ) (ops : List Operation) → fault_from index_of registry earlier place ops ≡ None → AreClear earlier ops
  clear_from earlier place [] none = tt
  clear_from earlier place (op ∷ ops) none =
      let both = placed_none place (fault_of index_of registry earlier op) _ none in
      (clear_of index_of registry earlier op both.0, clear_from (earlier ++ bound_by op ∷ []) (place + 1) ops both.1)

  none_from : (earlier : List Registered) (place : ℕ) (ops : List Operation) → AreClear earlier ops → fault_from index_of registry earlier place ops ≡ None
  none_from earlier place [] clear = refl
  none_from earlier place (op ∷ ops) clear = rw (none_of index_of registry earlier op clear.0) (none_from (earlier ++ bound_by op ∷ []) (place + 1) ops clear.1)

  -- ---- from each to all

  within_of : (earlier : List Registered) (ops : List Operation) → AreClear earlier ops → AreWithin (map bound_by ops)
  within_of earlier [] clear = tt
  within_of earlier (op ∷ ops) clear =
      (length_of MAX_NAME op.name clear.0.named, length_of MAX_KEY op.key clear.0.keyed, within_of (earlier ++ bound_by op ∷ []) ops clear.1)

  kinds_of : (earlier : List Registered) (ops : List Operation) → AreClear earlier ops → (op : Operation) → IsIn op ops → Suits op.kind (has_name registry op.name)
  kinds_of earlier [] clear op there = absurd there
  kinds_of earlier (x ∷ ops) clear op (inl here) = subst (λ (o : Operation). Suits o.kind (has_name registry o.name)) here (suits_of x.kind (has_name registry x.name) clear.0.kind)
  kinds_of earlier (x ∷ ops) clear op (inr later) = kinds_of (earlier ++ bound_by x ∷ []) ops clear.1 op later

  -- a name that an earlier one has is none of these
  not_again : (earlier : List Registered) (ops : List Operation) (name : List ℕ) → AreClear earlier ops → has_name earlier name ≡ true → has_name (map bound_by ops) name ≡ false
  not_again earlier [] name clear has = refl
  not_again earlier (op ∷ ops) name clear has =
      let differ : bytes_eq op.name name ≡ false = eq_apart op.name name (λ same. let on = subst (λ n. has_name earlier n ≡ true) (sym same) has in let off = clear.0.once in cc) in
      ap (λ v. v || has_name (map bound_by ops) name) differ
      ∙ not_again (earlier ++ bound_by op ∷ []) ops name clear.1 (has_name-append earlier (bound_by op ∷ []) name ∙ or_left (has_name earlier name) (has_name (bound_by op ∷ []) name) has)

  has_last : (earlier : List Registered) (b : Registered) → has_name (earlier ++ b ∷ []) b.name ≡ true
  has_last earlier b = has_name-append earlier (b ∷ []) b.name ∙ or_right (has_name earlier b.name) (has_name (b ∷ []) b.name) (or_left (bytes_eq b.name b.name) false (eq_same b.name b.name refl))

  once_of : (earlier : List Registered) (ops : List Operation) → AreClear earlier ops → AreOnce (map bound_by ops)
  once_of earlier [] clear = tt
  once_of earlier (op ∷ ops) clear =
      (not_again (earlier ++ bound_by op ∷ []) ops op.name clear.1 (has_last earlier (bound_by op)), once_of (earlier ++ bound_by op ∷ []) ops clear.1)

  own_of : (earlier : List Registered) (ops : List Operation) → AreClear earlier ops
      → HaveOwnIndices index_of (registry ++ earlier) → HaveOwnIndices index_of (registry ++ (earlier ++ map bound_by ops))
  own_of earlier [] clear own = subst (λ bs. HaveOwnIndices index_of (registry ++ bs)) (sym (append-nil earlier)) own
  own_of earlier (op ∷ ops) clear own =
      let b = bound_by op in
      subst (λ bs. HaveOwnIndices index_of (registry ++ bs)) (append_assoc earlier (b ∷ []) (map bound_by ops))
      (own_of (earlier ++ b ∷ []) ops clear.1 (subst (HaveOwnIndices index_of) (append_assoc registry earlier (b ∷ [])) (one_more index_of (registry ++ earlier) b own clear.0.apart)))

  -- ---- from all to each

  apart_of : (names : Registry) (name : List ℕ) → ((x : List ℕ) → has_name names x ≡ true → index_of x ≡ index_of name → x ≡ name) → clashes index_of names name ≡ false
  apart_of names name own = false_from_ne_true (clashes index_of names name) (λ on. let c = clash_found index_of names name on in c.apart (own c.other c.there c.at))

  clear_all : (earlier : List Registered) (ops : List Operation) → AreWithin (map bound_by ops)
      → AreOnce (map bound_by ops) → ((op : Operation) → IsIn op ops → Suits op.kind (has_name registry op.name))
      → ((op : Operation) → IsIn op ops → has_name earlier op.name ≡ false) → HaveOwnIndices index_of (registry ++ (earlier ++ map bound_by ops)) → AreClear earlier ops
  clear_all earlier [] within once kinds new own = tt
  clear_all earlier (op ∷ ops) within once kinds new own =
      let b = bound_by op in
      let whole : registry ++ (earlier ++ map bound_by (op ∷ ops)) ≡ (registry ++ earlier) ++ map bound_by (op ∷ ops) = sym (append_assoc registry earlier (map bound_by (op ∷ ops))) in
      let own' : HaveOwnIndices index_of ((registry ++ earlier) ++ map bound_by (op ∷ ops)) = subst (HaveOwnIndices index_of) whole own in
      let old : (x : List ℕ) → has_name (registry ++ earlier) x ≡ true → has_name ((registry ++ earlier) ++ map bound_by (op ∷ ops)) x ≡ true =
      λ x has. has_name-append (registry ++ earlier) (map bound_by (op ∷ ops)) x ∙ or_left (has_name (registry ++ earlier) x) (has_name (map bound_by (op ∷ ops)) x) has in
      let here : has_name ((registry ++ earlier) ++ map bound_by (op ∷ ops)) op.name ≡ true =
      has_name-append (registry ++ earlier) (map bound_by (op ∷ ops)) op.name ∙ or_right (has_name (registry ++ earlier) op.name) (has_name (map bound_by (op ∷ ops)) op.name)
      (or_left (bytes_eq op.name op.name) (has_name (map bound_by ops) op.name) (eq_same op.name op.name refl)) in (
        record {
          named = fits_of MAX_NAME op.name within.0;
          keyed = fits_of MAX_KEY op.key within.1;
          once = new op (inl refl);
          kind = suited op.kind (has_name registry op.name) (kinds op (inl refl));
          apart = apart_of (registry ++ earlier) op.name (λ x has at. own' x op.name (old x has) here at);
        },
        clear_all (earlier ++ b ∷ []) ops within.2 once.1 (λ o there. kinds o (inr there)) (later_new op ops once.0 new)
            (subst (λ bs. HaveOwnIndices index_of (registry ++ bs)) (sym (append_assoc earlier (b ∷ []) (map bound_by ops))) own),
      )
    where
      bound_there : (o : Operation) (os : List Operation) → IsIn o os → IsIn (bound_by o) (map bound_by os)
      bound_there o [] there = absurd there
      bound_there o (x ∷ xs) (inl same) = inl (ap bound_by same)
      bound_there o (x ∷ xs) (inr later) = inr (bound_there o xs later)

      later_new : (op : Operation) (ops : List Operation) → has_name (map bound_by ops) op.name ≡ false → ((o : Operation) → IsIn o (op ∷ ops) → has_name earlier o.name ≡ false)
          → (o : Operation) → IsIn o ops → has_name (earlier ++ bound_by op ∷ []) o.name ≡ false
      later_new op ops once new o there = false_from_ne_true (has_name (earlier ++ bound_by op ∷ []) o.name) (λ has.
          elim (of_last index_of earlier (bound_by op) o.name has) [
            | inl old ↦ let off = new o (inr there) in cc
            | inr same ↦ let has_op : has_name (map bound_by ops) op.name ≡ true = has_of (map bound_by ops) op.name (bound_by o) (bound_there o ops there) (sym same) in cc
          ])

  -- the words of the definition say that no operation has an error
  pub may_follow : (ops : List Operation) → HaveOwnIndices index_of registry → first_fault index_of registry ops ≡ None → MayFollow index_of registry ops
  may_follow ops own none =
      let clear = clear_from [] 0 ops none in
      record {
        within = within_of [] ops clear;
        once = once_of [] ops clear;
        kinds = kinds_of [] ops clear;
        apart = own_of [] ops clear (subst (HaveOwnIndices index_of) (sym (append-nil registry)) own);
      }

  pub faultless : (ops : List Operation) → MayFollow index_of registry ops → first_fault index_of registry ops ≡ None
  faultless ops may = none_from [] 0 ops (clear_all [] ops may.within may.once may.kinds (λ op there. refl) may.apart)

  -- what it leaves has indices of its own again
  pub own_after : (ops : List Operation) → MayFollow index_of registry ops → HaveOwnIndices index_of (after registry ops)
  own_after ops may x y has_x has_y at = may.apart x y (among x has_x) (among y has_y) at
    where
      among : (name : List ℕ) → has_name (after registry ops) name ≡ true → has_name (registry ++ map bound_by ops) name ≡ true
      among name has =
          let n = named_of (after registry ops) name has in
          has_name-append registry (map bound_by ops) name
          ∙ elim (in_overlaid registry (map bound_by ops) n.bound n.there) as (λ _. has_name registry name || has_name (map bound_by ops) name ≡ true) [
            | inl new ↦ or_right (has_name registry name) (has_name (map bound_by ops) name) (has_of (map bound_by ops) name n.bound new n.named)
            | inr old ↦ or_left (has_name registry name) (has_name (map bound_by ops) name) (has_of registry name n.bound old.0 n.named)
          ]

-- a registry whose entries are a map has indices of its own
pub own_of_map : (hash index_of : List ℕ → List ℕ) (registry : Registry) → IsMap (entries_of hash index_of registry) → HaveOwnIndices index_of registry
own_of_map hash index_of registry map x y has_x has_y at =
    let m = named_of registry x has_x in
    let n = named_of registry y has_y in
    sym m.named ∙ ap (λ (e : Entry Registered). e.behind.name)
    (same_entry (entries_of hash index_of registry) (entry_of hash index_of m.bound) (entry_of hash index_of n.bound) map
    (entry_in hash index_of m.bound registry m.there) (entry_in hash index_of n.bound registry n.there) (ap index_of m.named ∙ at ∙ ap index_of (sym n.named))) ∙ n.named
