-- The registries that the records leave, and the history of a state.
use Rattle.std.proofs.Common.{◌≡◌, ℕ, ◌-◌, ◌≤◌, List, [], ◌∷◌, ◌++◌, length, map, refl, ap, ◌∙◌, arith, Some, None, slice_get}
use Rattle.coniks_directory.proofs.Words.{Epoch, Record, State, Whole, history_of, last_count, latest_nonce, latest_registry, latest_version, overlaid}
use Rattle.coniks_directory.proofs.Words.{registered_of, registry_at, shown_of, take-append-le, take_all}
use Rattle.coniks_directory.proofs.LastLemmas.{last_found, none_last}

-- a registry doesn't depend on later records
pub registry_at-append : (records more : List Record) (n : ℕ) → n ≤ length records → registry_at (records ++ more) n ≡ registry_at records n
unfolding registry_at
registry_at-append records more n within = ap (λ (rs : List Record). overlaid [] (map registered_of rs)) (take-append-le n records more within)

-- the registry of all records
pub registry_at-all : (records : List Record) → registry_at records (length records) ≡ overlaid [] (map registered_of records)
unfolding registry_at
registry_at-all records = ap (λ (rs : List Record). overlaid [] (map registered_of rs)) (take_all (length records) records (omega arith))

latest-count : (records : List Record) (es : List Epoch) → latest_registry (map (shown_of records) es) ≡ registry_at records (last_count es)
unfolding registry_at
latest-count records [] = refl
latest-count records (e ∷ []) = refl
latest-count records (e ∷ f ∷ es) = latest-count records (f ∷ es)

-- the latest registry is that of all records
pub latest-is : (hash index_of : List ℕ → List ℕ) (s : State) → Whole hash index_of s → latest_registry (history_of s) ≡ registry_at s.records (length s.records)
latest-is hash index_of s whole = latest-count s.records s.epochs ∙ ap (registry_at s.records) whole.last

-- the latest registry is that of the last epoch
pub latest-last : (s : State) (e : Epoch) → slice_get s.epochs (length s.epochs - 1) ≡ Some e → latest_registry (history_of s) ≡ registry_at s.records e.count
latest-last s e at = last_found (λ es. latest_registry (map (shown_of s.records) es)) (λ x. registry_at s.records x.count) (λ x. refl) (λ x y xs. refl) s.epochs e at

-- and the latest nonce is that of the last epoch
pub nonce-last : (s : State) (e : Epoch) → slice_get s.epochs (length s.epochs - 1) ≡ Some e → latest_nonce s.nonce (history_of s) ≡ e.nonce.0
nonce-last s e at = last_found (λ es. latest_nonce s.nonce (map (shown_of s.records) es)) (λ x. x.nonce.0) (λ x. refl) (λ x y xs. refl) s.epochs e at

pub version-last : (s : State) (e : Epoch) → slice_get s.epochs (length s.epochs - 1) ≡ Some e → latest_version 1 (history_of s) ≡ e.version
version-last s e at = last_found (λ es. latest_version 1 (map (shown_of s.records) es)) (λ x. x.version) (λ x. refl) (λ x y xs. refl) s.epochs e at

pub version-none : (s : State) → slice_get s.epochs (length s.epochs - 1) ≡ None → latest_version 1 (history_of s) ≡ 1
version-none s at = rw (none_last s.epochs at) refl

pub nonce-none : (s : State) → slice_get s.epochs (length s.epochs - 1) ≡ None → latest_nonce s.nonce (history_of s) ≡ s.nonce
nonce-none s at = rw (none_last s.epochs at) refl
