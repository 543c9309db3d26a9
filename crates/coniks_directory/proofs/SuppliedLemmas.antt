-- The index that a map of supplied indices contains for a name.
use Rattle.std.proofs.Common.{◌≡◌, ℕ, List, [], ◌∷◌, map, Bool, true, false, refl, sym, ap, ◌∙◌, Option, Some, None, if◌then◌else◌, is_some}
use Rattle.std.specs.Option.{IfSome, option_copied}
use Rattle.std.specs.BTreeMap.{insert_entry}
use Rattle.std.specs.Ordering.{match_ordering}
use Rattle.std.specs.declared.cmp.Ordering.{Ordering}
use Rattle.std.specs.declared.cmp.Ordering.TheVariants.{Equal, Greater, Less}
use Rattle.coniks_proof.specs.declared.values.Index.{Index}
use Rattle.coniks_directory.proofs.Words.{Bor, bytes_eq, bytes_eq-Decides, is_eq, lookup, zeros}
use Rattle.coniks_directory.specs.Supplied.{IsSupplied, Supplied, is_supplied, supplied_index}
use Rattle.coniks_proof.proofs.Lemmas.{eq_apart, eq_same}

module _ {K : Type 0} (key : K → List ℕ) where
  -- the view of a key and its index
  abbrev pub seen : K × Index → Supplied
  seen e = (key e.0, e.1.0)

  -- a search of the map finds the supplied index
  module _ (test : K → Bool) (name : List ℕ) (is : (k : K) → test k ≡ bytes_eq name (key k)) where
    pub supplied_none : (es : List (K × Index)) → lookup test es ≡ None → supplied_index (map seen es) name ≡ zeros
    supplied_none [] none = refl
    supplied_none (e ∷ es) none = (elim (test e.0) as (λ v. test e.0 ≡ v → lookup test (e ∷ es) ≡ None → supplied_index (map seen (e ∷ es)) name ≡ zeros) [
      | true ↦ λ on gone. absurd (let never = rw on at gone in cc)
      | false ↦ λ off gone. let differ = sym (is e.0) ∙ off in rw differ (supplied_none es (rw off at gone))
    ]) refl none

    pub supplied_some : (es : List (K × Index)) (i : Index) → lookup test es ≡ Some i → supplied_index (map seen es) name ≡ i.0
    supplied_some [] i found = absurd (let never = found in cc)
    supplied_some (e ∷ es) i found = (elim (test e.0) as (λ v. test e.0 ≡ v → lookup test (e ∷ es) ≡ Some i → supplied_index (map seen (e ∷ es)) name ≡ i.0) [
      | true ↦ λ on here. let same = sym (is e.0) ∙ on in let one : e.1 ≡ i = (let some = rw on at here in cc) in rw same (ap (λ (x : Index). x.0) one)
      | false ↦ λ off later. let differ = sym (is e.0) ∙ off in rw differ (supplied_some es i (rw off at later))
    ]) refl found

    pub supplied_has : (es : List (K × Index)) → is_some (lookup test es) ≡ is_supplied (map seen es) name
    supplied_has [] = refl
    supplied_has (e ∷ es) = (elim (test e.0) as (λ v. test e.0 ≡ v → is_some (lookup test (e ∷ es)) ≡ is_supplied (map seen (e ∷ es)) name) [
      | true ↦ λ on. let same = sym (is e.0) ∙ on in rw (on, same) refl
      | false ↦ λ off. let differ = sym (is e.0) ∙ off in rw (off, differ) (supplied_has es)
    ]) refl

    -- the same for a borrowed index
    pub found_some : (es : List (K × Index)) (r : Option (Bor Index)) → option_copied r ≡ lookup test es
        → IfSome r (λ i. (is_supplied (map seen es) name ≡ true) × (i.now.0 ≡ supplied_index (map seen es) name))
    found_some es None at = tt
    found_some es (Some i) at = (sym (supplied_has es) ∙ ap is_some (sym at), sym (supplied_some es i.now (sym at)))

    pub found_none : (es : List (K × Index)) (r : Option (Bor Index)) → option_copied r ≡ lookup test es → r ≡ None → is_supplied (map seen es) name ≡ false
    found_none es r at none = sym (supplied_has es) ∙ ap is_some (sym at ∙ ap option_copied none)

  -- one more name, or another index for a name
  module _ (cmp : K → K → Ordering) (is : (x y : K) → is_eq (cmp x y) ≡ bytes_eq (key x) (key y)) (k : K) (v : Index) where
    abbrev after_insert : List (K × Index) → List ℕ → List ℕ
    after_insert es name = if bytes_eq name (key k) then v.0 else supplied_index (map seen es) name

    pub supplied_insert : (es : List (K × Index)) (name : List ℕ) → supplied_index (map seen (insert_entry cmp es k v)) name ≡ after_insert es name
    supplied_insert [] name = refl
    supplied_insert (e ∷ es) name =
        (elim (cmp k e.0) as (λ o. cmp k e.0 ≡ o → supplied_index (map seen (match_ordering o ((k, v) ∷ e ∷ es) ((e.0, v) ∷ es) (e ∷ insert_entry cmp es k v))) name ≡ after_insert (e ∷ es) name) [
          | Less ↦ λ _. refl
          | Equal ↦ λ o.
              let same : key k ≡ key e.0 = (bytes_eq-Decides (key k) (key e.0)).0 (sym (is k e.0) ∙ ap is_eq o) in
              (elim (bytes_eq name (key e.0)) as (λ b. bytes_eq name (key e.0) ≡ b → (if b then v.0 else supplied_index (map seen es) name) ≡ after_insert (e ∷ es) name) [
                | true ↦ λ on. let on' : bytes_eq name (key k) ≡ true = ap (bytes_eq name) same ∙ on in rw on' refl
                | false ↦ λ off. let off' : bytes_eq name (key k) ≡ false = ap (bytes_eq name) same ∙ off in rw (off', off) refl
              ]) refl
          | Greater ↦ λ o.
              let apart : bytes_eq (key k) (key e.0) ≡ false = sym (is k e.0) ∙ ap is_eq o in
              (elim (bytes_eq name (key e.0)) as (λ b. bytes_eq name (key e.0) ≡ b → (if b then e.1.0 else supplied_index (map seen (insert_entry cmp es k v)) name) ≡ after_insert (e ∷ es) name) [
                | true ↦ λ on.
                    let here = (bytes_eq-Decides name (key e.0)).0 on in
                    let off : bytes_eq name (key k) ≡ false = eq_apart name (key k) (λ both. let is_same = eq_same (key k) (key e.0) (sym both ∙ here) in cc) in
                    rw (off, on) refl
                | false ↦ λ off. supplied_insert es name ∙ ap (λ x. if bytes_eq name (key k) then v.0 else x) (rw off refl)
              ]) refl
        ]) refl

    -- so the map has this index for the name, and each other name keeps its index
    pub supplied_more : (es : List (K × Index)) (name : List ℕ) → key k ≡ name → IsSupplied (supplied_index (map seen es)) name v.0 (supplied_index (map seen (insert_entry cmp es k v)))
    supplied_more es name named = record {
      here = supplied_insert es name ∙ (let on : bytes_eq name (key k) ≡ true = eq_same name (key k) (sym named) in rw on refl);
      others = λ other apart. supplied_insert es other ∙ (let off : bytes_eq other (key k) ≡ false = eq_apart other (key k) (λ same. apart (same ∙ named)) in rw off refl);
    }
