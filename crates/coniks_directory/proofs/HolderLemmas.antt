-- The holder of an index, and what follows for a name at that index.
use Rattle.std.proofs.Common.{◌≡◌, ℕ, List, [], ◌∷◌, map, true, false, refl, sym, ap, subst, ◌∙◌, not, inl, inr, Option, Some, None, is_some, slice_get}
use Rattle.coniks_tree.specs.Table.{Table}
use Rattle.coniks_directory.proofs.Words.{Bor, Entry, Finds, HolderIs, IsFree, IsBoundAt, IsIn, Numbered, Record, RecordNo, Registered}
use Rattle.coniks_directory.proofs.Words.{Registry, ShowsRegistry, backed_by, bytes_eq, bytes_eq-Decides, clashes, entries_of, entry_of}
use Rattle.coniks_directory.proofs.Words.{entry_of_record, false_from_ne_true, has_name, registered_at, registered_by, registered_of}
use Rattle.coniks_proof.proofs.Lemmas.{clash_found, clash_made, entry_in, eq_same, in_entries, named_in, named_of, same_bool, same_entry}

-- an entry with a replaced payload comes from an entry of the list
pub in_backed : {B C : Type 0} (f : B → C) (es : List (Entry B)) (e : Entry C) → IsIn e (map (backed_by f) es) → (x : Entry B) × IsIn x es × (backed_by f x ≡ e)
in_backed f [] e there = absurd there
in_backed f (x ∷ es) e (inl here) = (x, inl refl, here)
in_backed f (x ∷ es) e (inr later) = let k = in_backed f es e later in (k.0, inr k.1, k.2)

pub backed_in : {B C : Type 0} (f : B → C) (es : List (Entry B)) (x : Entry B) → IsIn x es → IsIn (backed_by f x) (map (backed_by f) es)
backed_in f [] x there = absurd there
backed_in f (y ∷ es) x (inl here) = inl (ap (backed_by f) here)
backed_in f (y ∷ es) x (inr later) = inr (backed_in f es x later)

module _ (hash index_of : List ℕ → List ℕ) (nonce : List ℕ) (t : Table)
    (root : ℕ) (registry : Registry) (s : ShowsRegistry hash index_of nonce t root registry) where
  pub found_none : (i : List ℕ) → Finds t.records i None s.entries → IsFree index_of registry i
  found_none i finds = λ name at. false_from_ne_true (has_name registry name) (λ h.
      let n = named_of registry name h in
      let k = in_backed (registered_at t.records) s.entries (entry_of hash index_of n.bound) (s.mirrors.same.back (entry_of hash index_of n.bound) (entry_in hash index_of n.bound registry n.there)) in
      finds k.0 k.1 (ap (λ (e : Entry Registered). e.index) k.2 ∙ ap index_of n.named ∙ at))

  pub found_some : (i : List ℕ) (place : RecordNo) (r : Record) → Finds t.records i (Some place) s.entries → slice_get t.records place.0 ≡ Some r → IsBoundAt index_of registry i (registered_of r)
  found_some i place r finds at =
      let finds-at = finds.1 in
      let one : finds.0 ≡ r = cc in
      let e : Numbered = entry_of_record place.0 finds.0 in
      let f = registered_at t.records in
      let stands : IsIn (backed_by f e) (entries_of hash index_of registry) = s.mirrors.same.there (backed_by f e) (backed_in f s.entries e finds.2) in
      let own = in_entries hash index_of (backed_by f e) registry stands in
      let binds : f place.0 ≡ registered_of r = ap registered_by at in
      let b = registered_of r in
      let bound : IsIn b registry = subst (λ (x : Registered). IsIn x registry) binds own.1 in
      let at-index : index_of b.name ≡ i = ap (λ (x : Registered). index_of x.name) (sym binds) ∙ ap (λ (x : Entry Registered). x.index) own.0 ∙ finds.3 in
      record {
        at = at-index;
        has = named_in b registry bound;
        only = λ name there has.
            let n = named_of registry name has in
            let same = same_entry (entries_of hash index_of registry) (entry_of hash index_of n.bound) (entry_of hash index_of b) s.mirrors.names (entry_in hash index_of n.bound registry n.there)
            (entry_in hash index_of b registry bound)
            (ap index_of n.named ∙ there ∙ sym at-index) in
            sym n.named ∙ ap (λ (x : Entry Registered). x.behind.name) same;
      }

pub clash_free : (index_of : List ℕ → List ℕ) (registry : Registry) (name : List ℕ) → IsFree index_of registry (index_of name) → clashes index_of registry name ≡ false
clash_free index_of registry name none = false_from_ne_true (clashes index_of registry name)
    (λ h. let c = clash_found index_of registry name h in let there = c.there in let gone = none c.other c.at in cc)

pub clash_stored : (index_of : List ℕ → List ℕ) (registry : Registry) (name : List ℕ) (b : Registered)
    → IsBoundAt index_of registry (index_of name) b → clashes index_of registry name ≡ not (bytes_eq b.name name)
clash_stored index_of registry name b stored = (elim (bytes_eq b.name name) as (λ v. bytes_eq b.name name ≡ v → clashes index_of registry name ≡ not v) [
  | true ↦ λ is. false_from_ne_true (clashes index_of registry name)
      (λ h. let c = clash_found index_of registry name h in c.apart (stored.only c.other c.at c.there ∙ (bytes_eq-Decides b.name name).0 is))
  | false ↦ λ is. clash_made index_of registry name (record { other = b.name; at = stored.at; there = stored.has; apart = λ same. let on = eq_same b.name name same in cc })
]) refl

pub named_stored : (index_of : List ℕ → List ℕ) (registry : Registry) (name : List ℕ) (b : Registered) → IsBoundAt index_of registry (index_of name) b → has_name registry name ≡ bytes_eq b.name name
named_stored index_of registry name b stored = same_bool (has_name registry name) (bytes_eq b.name name)
    (λ h. eq_same b.name name (sym (stored.only name refl h)))
    (λ on. subst (λ n. has_name registry n ≡ true) ((bytes_eq-Decides b.name name).0 on) stored.has)

-- the holder of the index of a name that isn't registered is another name
pub clash_some : (index_of : List ℕ → List ℕ) (registry : Registry) (name : List ℕ) (holder : Option (Bor Record)) → HolderIs index_of registry (index_of name) holder → has_name registry name ≡ false
    → clashes index_of registry name ≡ is_some holder
clash_some index_of registry name None stored gone = clash_free index_of registry name stored
clash_some index_of registry name (Some r) stored gone =
    clash_stored index_of registry name (registered_of r.now) stored ∙ ap not (sym (named_stored index_of registry name (registered_of r.now) stored) ∙ gone)
