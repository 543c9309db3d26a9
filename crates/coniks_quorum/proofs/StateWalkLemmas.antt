-- A walk over the bytes of changes.
use Rattle.std.proofs.Common.{◌≡◌, ◌<◌, ◌≤◌, ℕ, zero, suc, ◌+◌, List, [], ◌∷◌, ◌++◌, length, take, drop, map, Some, sym, ap, subst, ◌∙◌, arith}
use Rattle.std.specs.List.{All, flat_map, slice_get}
use Rattle.std.proofs.lemmas.List.{length-map, length-take-le, map_push, take_all, take_more_set}
use Rattle.std.proofs.Math.ListN.{set}
use Rattle.std.proofs.lemmas.List.Elements.{All-head, All-tail}
use Rattle.coniks_client.specs.declared.changes.Change.{Change}
use Rattle.coniks_quorum.specs.StateForms.{IsSizedChange}
use Rattle.coniks_quorum.specs.StateReading.{BeginsWithChange}
use Rattle.coniks_quorum.specs.Saved.{SavedChange, change_bytes, saved_change}
use Rattle.coniks_quorum.proofs.StateByteLemmas.{change_same}

-- what is left of changes after the first n of them
abbrev pub Leaves : List ℕ → ℕ → List ℕ → Type 0
Leaves bytes n rest = (changes : List SavedChange) → All IsSizedChange changes → bytes ≡ flat_map change_bytes changes → rest ≡ flat_map change_bytes (drop n changes)

no_change : (rest after : List ℕ) (change : SavedChange) → rest ≡ [] → BeginsWithChange rest change after → ⊥
no_change rest after change none begins = let both = sym none ∙ begins.same in cc

-- the next of the changes
pub next_change : (changes : List SavedChange) (n : ℕ) (rest after : List ℕ) (change : SavedChange) → All IsSizedChange changes → rest ≡ flat_map change_bytes (drop n changes)
    → BeginsWithChange rest change after → (slice_get changes n ≡ Some change) × (after ≡ flat_map change_bytes (drop (suc n) changes))
next_change [] zero rest after change sized left begins = absurd (no_change rest after change left begins)
next_change [] (suc n) rest after change sized left begins = absurd (no_change rest after change left begins)
next_change (x ∷ xs) zero rest after change sized left begins =
    let parts = change_same rest x change (flat_map change_bytes xs) after (record { sized = All-head IsSizedChange x xs sized; same = left }) begins in
    (ap (λ c. Some c) parts.0, sym parts.1)
next_change (x ∷ xs) (suc n) rest after change sized left begins = next_change xs n rest after change (All-tail IsSizedChange x xs sized) left begins

-- there is none
pub no_next : (changes : List SavedChange) (n : ℕ) (rest : List ℕ) → All IsSizedChange changes → rest ≡ flat_map change_bytes (drop n changes)
    → ((change : SavedChange) (after : List ℕ) → ¬ BeginsWithChange rest change after) → length changes ≤ n
no_next [] n rest sized left none = omega arith
no_next (x ∷ xs) zero rest sized left none = absurd (none x (flat_map change_bytes xs) (record { sized = All-head IsSizedChange x xs sized; same = left }))
no_next (x ∷ xs) (suc n) rest sized left none = omega (arith, no_next xs n rest (All-tail IsSizedChange x xs sized) left none)

-- one change more
pub leaves-next : (bytes : List ℕ) (n : ℕ) (rest after : List ℕ) (change : SavedChange) → Leaves bytes n rest → BeginsWithChange rest change after → Leaves bytes (n + 1) after
leaves-next bytes n rest after change leaves begins changes sized same =
    let step : suc n ≡ n + 1 = omega arith in
    subst (λ k. after ≡ flat_map change_bytes (drop k changes)) step (next_change changes n rest after change sized (leaves changes sized same) begins).1

-- the first n of the changes were copied
abbrev pub AreCopied : List ℕ → ℕ → List Change → Type 0
AreCopied bytes n out = (changes : List SavedChange) → All IsSizedChange changes → bytes ≡ flat_map change_bytes changes → map saved_change (take n out) ≡ take n changes

take_next : (changes : List SavedChange) (n : ℕ) (change : SavedChange) → slice_get changes n ≡ Some change → take (suc n) changes ≡ take n changes ++ change ∷ []
take_next [] n change at = absurd (cc)
take_next (x ∷ xs) zero change at = let same : x ≡ change = cc in ap (λ c. c ∷ []) same
take_next (x ∷ xs) (suc n) change at = ap (λ ys. x ∷ ys) (take_next xs n change at)

-- one more was
pub copied-next : (bytes : List ℕ) (n : ℕ) (rest after : List ℕ) (change : Change) (out : List Change) → n < length out → Leaves bytes n rest
    → BeginsWithChange rest (saved_change change) after → AreCopied bytes n out → AreCopied bytes (n + 1) (set out n change)
copied-next bytes n rest after change out within leaves begins copied changes sized same =
    let there = (next_change changes n rest after (saved_change change) sized (leaves changes sized same) begins).0 in
    let step : suc n ≡ n + 1 = omega arith in
    ap (map saved_change) (take_more_set out n change within) ∙ map_push saved_change (take n out) change
    ∙ ap (λ cs. cs ++ saved_change change ∷ []) (copied changes sized same) ∙ sym (take_next changes n (saved_change change) there) ∙ ap (λ k. take k changes) step

-- all were
pub copied-all : (bytes : List ℕ) (n : ℕ) (rest : List ℕ) (out : List Change) → Leaves bytes n rest → ((change : SavedChange) (after : List ℕ) → ¬ BeginsWithChange rest change after)
    → AreCopied bytes n out → (changes : List SavedChange) → All IsSizedChange changes → bytes ≡ flat_map change_bytes changes → map saved_change (take n out) ≡ changes
copied-all bytes n rest out leaves none copied changes sized same =
    copied changes sized same ∙ take_all n changes (no_next changes n rest sized (leaves changes sized same) none)

pub copied-count : (bytes : List ℕ) (n : ℕ) (rest : List ℕ) (out : List Change) → Leaves bytes n rest → ((change : SavedChange) (after : List ℕ) → ¬ BeginsWithChange rest change after)
    → n ≤ length out → AreCopied bytes n out → (changes : List SavedChange) → All IsSizedChange changes → bytes ≡ flat_map change_bytes changes → n ≡ length changes
copied-count bytes n rest out leaves none within copied changes sized same =
    sym (length-map (take n out) saved_change ∙ length-take-le n out within) ∙ ap length (copied-all bytes n rest out leaves none copied changes sized same)
