-- The parts of a state that is read.
use Rattle.std.proofs.Common.{◌≡◌, ◌<◌, ◌≤◌, ℕ, suc, ◌+◌, ◌-◌, ◌^◌, List, [], ◌∷◌, ◌++◌, length, take, drop, slice_index, Bool, false, IsTrue, sym, ap, subst, ◌∙◌, arith}
use Rattle.std.specs.List.{flat_map}
use Rattle.std.specs.Int.{w32, to_be_bytes}
use Rattle.std.proofs.lemmas.List.{drop-take, take-append-drop, take-take}
use Rattle.coniks_client.specs.declared.stored.StoredEntry.{StoredEntry}
use Rattle.coniks_quorum.specs.StateForms.{AreDistinct}
use Rattle.coniks_quorum.specs.StateReading.{BeginsWithName, HasChanges, IsWatched}
use Rattle.coniks_quorum.specs.Saved.{SavedWatch, change_bytes, watched_bytes}
use Rattle.coniks_quorum.specs.Says.{SaysWatched}
use Rattle.coniks_quorum.specs.declared.states.state.Watched.{Watched}
use Rattle.coniks_quorum.proofs.StateNameLemmas.{name_same}

-- what is before the digest: the version, the policy digest, and the rest
pub body_parts : (bytes : List ℕ) → 110 ≤ length bytes
    → take (length bytes - 32) bytes ≡ slice_index bytes 0 ∷ (take 32 (drop 1 bytes) ++ take (length bytes - 32 - 33) (drop 33 bytes))
body_parts [] long = absurd (omega arith)
body_parts (x ∷ ys) long =
    let m = length (x ∷ ys) - 32 - 33 in
    let size : length (x ∷ ys) - 32 ≡ 33 + m = omega arith in
    let inner : 32 ≤ 32 + m = omega arith in
    ap (λ k. take k (x ∷ ys)) size
    ∙ ap (λ k. take k (x ∷ ys)) (step m)
    ∙ ap (λ zs. x ∷ zs) (
    sym (take-append-drop 32 (take (32 + m) ys)) ∙ ap (λ zs. zs ++ drop 32 (take (32 + m) ys)) (take-take 32 (32 + m) ys inner)
    ∙ ap (λ zs. take 32 ys ++ zs) (drop-take 32 m ys)
    )
  where
    step : (m : ℕ) → 33 + m ≡ suc (32 + m)
    step m = omega arith

module _ (stored : List StoredEntry) (bytes name : List ℕ) (since : ℕ) (key : List ℕ) (count : ℕ) (rest : List ℕ) (begins : BeginsWithName bytes name since key count rest) where
  -- a name and changes are a watch
  pub watched_made : (watched : Watched) → HasChanges stored 0 key count rest → watched.watch.name.now ≡ name → watched.watch.since ≡ since → watched.watch.key.now ≡ key
      → watched.count ≡ count → watched.changes.now ≡ rest → (saved : SavedWatch) × IsWatched stored saved bytes × SaysWatched watched saved
  watched_made watched has name_is since_is key_is count_is changes_are =
      let are = has.are in
      let named : List ℕ = watched_bytes name since key in (
        record { name = name; since = since; key = key; changes = has.changes },
        record {
          sized = record { name = begins.sized; few = subst (λ n. n < 2 ^ 32) (sym are.size) begins.few; changes = are.sized };
          formed = record { order = are.order; distinct = are.distinct; clear = are.clear };
          same = begins.same ∙ ap (λ n. named ++ to_be_bytes w32 n ++ rest) (sym are.size) ∙ ap (λ ys. named ++ to_be_bytes w32 (length has.changes) ++ ys) are.same;
        },
        record { name = name_is; since = since_is; key = key_is; count = count_is ∙ sym are.size; changes = changes_are ∙ are.same },
      )

  -- a watch has such changes
  pub watched-has : (saved : SavedWatch) → IsWatched stored saved bytes → HasChanges stored 0 key count rest
  watched-has saved is =
      let all = flat_map change_bytes saved.changes in
      let ways = name_same bytes saved.name name saved.since since saved.key key (length saved.changes) count all rest
      (record { sized = is.sized.name; few = is.sized.few; same = is.same }) begins in
      record {
        changes = saved.changes;
        are = record {
          size = ways.3;
          same = sym ways.4;
          sized = is.sized.changes;
          order = is.formed.order;
          distinct = subst (λ k. AreDistinct k saved.changes) ways.2 is.formed.distinct;
          clear = is.formed.clear;
        };
      }

  -- without them bytes are none
  pub not_watched : (are : Bool) → ((IsTrue are → HasChanges stored 0 key count rest) × (HasChanges stored 0 key count rest → IsTrue are)) → are ≡ false
      → (saved : SavedWatch) → ¬ IsWatched stored saved bytes
  not_watched are tells fails saved is = let no : IsTrue false = subst IsTrue fails (tells.1 (watched-has saved is)) in cc

-- bytes that begin with no name are no watch
pub watched-none : (stored : List StoredEntry) (bytes : List ℕ)
    → ((name : List ℕ) (since : ℕ) (key : List ℕ) (count : ℕ) (rest : List ℕ) → ¬ BeginsWithName bytes name since key count rest)
    → (saved : SavedWatch) → ¬ IsWatched stored saved bytes
watched-none stored bytes none saved is =
    none saved.name saved.since saved.key (length saved.changes) (flat_map change_bytes saved.changes) (record { sized = is.sized.name; few = is.sized.few; same = is.same })
