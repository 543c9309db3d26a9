-- What holds of each stored epoch that a scan has passed.
use Rattle.std.proofs.Common.{◌≡◌, ℕ, ◌+◌, ◌<◌, ◌≤◌, List, length, Some, sym, ap, subst, ◌∙◌, ⊎_elim, arith, get_or}
use Rattle.std.specs.List.{slice_get}
use Rattle.std.proofs.lemmas.Option.{slice_get_within, slice_get-get_or, same_Some}
use Rattle.std.proofs.lemmas.Bool.{cases_lt}
use Rattle.coniks_client.specs.declared.stored.StoredEntry.{StoredEntry}

-- it holds of the first n stored epochs
abbrev pub HoldsTo : (StoredEntry → Type 0) → List StoredEntry → ℕ → Type 0
HoldsTo P stored n = (k : ℕ) (mine : StoredEntry) → k < n → slice_get stored k ≡ Some mine → P mine

pub holds-all : (P : StoredEntry → Type 0) (stored : List StoredEntry) (n : ℕ) → length stored ≤ n → HoldsTo P stored n → (k : ℕ) (mine : StoredEntry) → slice_get stored k ≡ Some mine → P mine
holds-all P stored n all holds = λ k mine at.
    let below = slice_get_within stored k mine at in
    holds k mine (omega arith) at

-- and of one more
pub holds-more : (P : StoredEntry → Type 0) (stored : List StoredEntry) (n : ℕ) (d : StoredEntry) → n < length stored → P (get_or stored n d) → HoldsTo P stored n → HoldsTo P stored (n + 1)
holds-more P stored n d within here before = λ k other less there. ⊎_elim
    (λ (below : k < n). before k other below there)
    (λ (le : n ≤ k).
    let place : k ≡ n = omega arith in
    let same : get_or stored n d ≡ other = same_Some (get_or stored n d) other (sym (slice_get-get_or stored n d within) ∙ ap (slice_get stored) (sym place) ∙ there) in
    subst P same here)
    (cases_lt k n)
