-- Registries: names, bindings and their entries.
use Rattle.std.proofs.Common.{◌≡◌, ℕ, List, [], ◌∷◌, true, false, refl, sym, ap, subst, ◌∙◌, cond, ◌||◌, inl, inr, Some, None}
use Rattle.std.proofs.lemmas.Bool.{or_right}
use Rattle.std.specs.Str.{bytes_eq}
use Rattle.std.proofs.lemmas.Slice.Eq.{bytes_eq-Decides}
use Rattle.coniks_proof.specs.declared.values.TheConstants.{MAX_KEY, MAX_NAME}
use Rattle.coniks_proof.specs.Entries.{Entry, IsIn}
use Rattle.coniks_proof.specs.Registry.{Registered, Registry, has_name, bound_to, entry_of, entries_of, IsLength, AreWithin}

-- an entry of a registry's map is that of the binding behind it
pub in_entries : (hash index_of : List ℕ → List ℕ) (e : Entry Registered) (registry : Registry)
    → IsIn e (entries_of hash index_of registry) → (entry_of hash index_of e.behind ≡ e) × IsIn e.behind registry
in_entries hash index_of e [] there = absurd there
in_entries hash index_of e (b ∷ bs) (inl here) =
    let same : b ≡ e.behind = ap (λ (x : Entry Registered). x.behind) here in
    (ap (entry_of hash index_of) (sym same) ∙ here, inl same)
in_entries hash index_of e (b ∷ bs) (inr later) = let ih = in_entries hash index_of e bs later in (ih.0, inr ih.1)

pub entry_in : (hash index_of : List ℕ → List ℕ) (b : Registered) (registry : Registry) → IsIn b registry → IsIn (entry_of hash index_of b) (entries_of hash index_of registry)
entry_in hash index_of b [] there = absurd there
entry_in hash index_of b (x ∷ xs) (inl here) = inl (ap (entry_of hash index_of) here)
entry_in hash index_of b (x ∷ xs) (inr later) = inr (entry_in hash index_of b xs later)

-- what a name is bound to is in the registry, under the name
pub bound_in : (registry : Registry) (name : List ℕ) (b : Registered) → bound_to registry name ≡ Some b → IsIn b registry × (b.name ≡ name)
bound_in [] name b found = cc
bound_in (x ∷ xs) name b found = (elim (bytes_eq x.name name) as (λ v. bytes_eq x.name name ≡ v → cond v (Some x) (bound_to xs name) ≡ Some b → IsIn b (x ∷ xs) × (b.name ≡ name)) [
  | true ↦ λ on is. let same : x ≡ b = cc in (inl same, ap (λ (y : Registered). y.name) (sym same) ∙ (bytes_eq-Decides x.name name).0 on)
  | false ↦ λ off is. let ih = bound_in xs name b is in (inr ih.0, ih.1)
]) refl found

self_named : (b : Registered) → bytes_eq b.name b.name ≡ true
self_named b = (bytes_eq-Decides b.name b.name).1 refl

pub named_in : (b : Registered) (registry : Registry) → IsIn b registry → has_name registry b.name ≡ true
named_in b [] there = absurd there
named_in b (x ∷ xs) (inl here) = let on : bytes_eq x.name b.name ≡ true = subst (λ (y : Registered). bytes_eq y.name b.name ≡ true) (sym here) (self_named b) in rw on refl
named_in b (x ∷ xs) (inr later) = or_right (bytes_eq x.name b.name) (has_name xs b.name) (named_in b xs later)

-- a name that is bound to nothing isn't registered
pub unnamed : (registry : Registry) (name : List ℕ) → bound_to registry name ≡ None → has_name registry name ≡ false
unnamed [] name none = refl
unnamed (x ∷ xs) name none = (elim (bytes_eq x.name name) as (λ v. cond v (Some x) (bound_to xs name) ≡ None → v || has_name xs name ≡ false) [
  | true ↦ λ some. absurd (let never = some in cc)
  | false ↦ λ is. unnamed xs name is
]) none

pub within : (b : Registered) (registry : Registry) → AreWithin registry → IsIn b registry → IsLength MAX_NAME b.name × IsLength MAX_KEY b.key
within b [] all there = absurd there
within b (x ∷ xs) all (inl here) = subst (λ (y : Registered). IsLength MAX_NAME y.name × IsLength MAX_KEY y.key) here (all.0, all.1)
within b (x ∷ xs) all (inr later) = within b xs all.2 later
