-- A registry that a batch's bindings overwrite.
use Rattle.std.proofs.Common.{◌≡◌, ◌≢◌, ℕ, List, [], ◌∷◌, map, false, refl, sym, subst, inl, inr}
use Rattle.coniks_directory.proofs.Words.{AreOnce, AreWithin, IsIn, IsIndex, IsLength, IsMap, MAX_KEY, MAX_NAME, Registered}
use Rattle.coniks_directory.proofs.Words.{Registry, bytes_eq, entries_of, has_name}
use Rattle.coniks_directory.proofs.Words.{or_parts, overlaid, rebound}
use Rattle.coniks_proof.proofs.Lemmas.{IsMap-rebound, eq_same}
use Rattle.coniks_proof.proofs.Lemmas.{in_overlaid, in_rebound, rebound_new, rebound_old, within}

-- an old binding stays if its name has no new one
pub overlaid_old : (registry : Registry) (bs : List Registered) (b : Registered) → IsIn b registry → has_name bs b.name ≡ false → IsIn b (overlaid registry bs)
overlaid_old registry [] b there gone = there
overlaid_old registry (x ∷ xs) b there gone =
    let both = or_parts (bytes_eq x.name b.name) (has_name xs b.name) gone in
    overlaid_old (rebound registry x) xs b (rebound_old registry x b there (λ same. let on = eq_same x.name b.name (sym same) in let off = both.0 in cc)) both.1

pub overlaid_new : (registry : Registry) (bs : List Registered) (b : Registered) → AreOnce bs → IsIn b bs → IsIn b (overlaid registry bs)
overlaid_new registry [] b once there = absurd there
overlaid_new registry (x ∷ xs) b once (inl here) = subst (λ (y : Registered). IsIn y (overlaid registry (x ∷ xs))) here (overlaid_old (rebound registry x) xs x (rebound_new registry x) once.0)
overlaid_new registry (x ∷ xs) b once (inr later) = overlaid_new (rebound registry x) xs b once.1 later

-- different names have different indices
abbrev pub ArePart : (List ℕ → List ℕ) → List Registered → Type 0
ArePart index_of all = (c d : Registered) → IsIn c all → IsIn d all → c.name ≢ d.name → index_of c.name ≢ index_of d.name

-- an overwritten registry is a map if different names in all bindings have different indices
pub IsMap-overlaid : (hash index_of : List ℕ → List ℕ) (all : List Registered) (registry : Registry) (bs : List Registered) → ArePart index_of all → ((b : Registered) → IsIn b registry → IsIn b all)
    → ((b : Registered) → IsIn b bs → IsIn b all × IsIndex (index_of b.name)) → IsMap (entries_of hash index_of registry) → IsMap (entries_of hash index_of (overlaid registry bs))
IsMap-overlaid hash index_of all registry [] part old new map = map
IsMap-overlaid hash index_of all registry (x ∷ xs) part old new map =
    let here = new x (inl refl) in
    IsMap-overlaid hash index_of all (rebound registry x) xs part
    (λ c there. elim (in_rebound registry x c there) [ inl same ↦ subst (λ (y : Registered). IsIn y all) same here.0 | inr stays ↦ old c stays.0 ])
    (λ b there. new b (inr there))
    (IsMap-rebound hash index_of registry x map here.1 (λ c there. part c x (old c there) here.0))

within_all : (registry : Registry) → ((b : Registered) → IsIn b registry → IsLength MAX_NAME b.name × IsLength MAX_KEY b.key) → AreWithin registry
within_all [] each = tt
within_all (b ∷ bs) each = ((each b (inl refl)).0, (each b (inl refl)).1, within_all bs (λ c there. each c (inr there)))

pub within-overlaid : (registry : Registry) (bs : List Registered) → AreWithin registry → AreWithin bs → AreWithin (overlaid registry bs)
within-overlaid registry bs limits new =
    within_all (overlaid registry bs) (λ b there. elim (in_overlaid registry bs b there) [ inl fresh ↦ within b bs new fresh | inr old ↦ within b registry limits old.0 ])
