-- The entries of a map that is overwritten, and what of it lies under a prefix.
use Rattle.std.proofs.Common.{◌≡◌, ℕ, suc, ◌+◌, ◌-◌, ◌≤◌, List, [], ◌∷◌, ◌++◌, length, Bool, true, false, refl, ap, subst, ◌∙◌, arith, not, ◌||◌, ◌⊎◌, inl, inr}
use Rattle.std.proofs.lemmas.Bool.{not-true, or_cases, or_right}
use Rattle.std.proofs.lemmas.Slice.Eq.{bytes_eq-Decides}
use Rattle.std.specs.List.{filter}
use Rattle.std.specs.Str.{bytes_eq}
use Rattle.coniks_proof.specs.Changes.{has_index, overwritten, AreApart}
use Rattle.coniks_proof.specs.Entries.{Entry, IsIn, half, under, under_from}
use Rattle.coniks_proof.specs.Maps.{IsMap}
use Rattle.coniks_proof.proofs.ChangeLemmas.{half-overwritten}
use Rattle.coniks_proof.proofs.MapLemmas.{IsIn-append, IsIn-append_left, IsIn-append_right, IsIn-filter, IsMap-append, IsMap-filter, of_filter, passes}
use Rattle.coniks_proof.proofs.MapLemmas.{BeginAlike, BeginAlike-half, alike_none, apart_within, next_bits}
use Rattle.coniks_proof.proofs.NameLemmas.{eq_same}

pub index_there : {B : Type 0} (cs : List (Entry B)) (e : Entry B) (index : List ℕ) → IsIn e cs → e.index ≡ index → has_index cs index ≡ true
index_there [] e index there at = absurd there
index_there {B} (c ∷ cs) e index (inl here) at = ap (λ v. v || has_index cs index) (eq_same c.index index (ap (λ (x : Entry B). x.index) here ∙ at))
index_there (c ∷ cs) e index (inr later) at = or_right (bytes_eq c.index index) (has_index cs index) (index_there cs e index later at)

pub there_index : {B : Type 0} (cs : List (Entry B)) (index : List ℕ) → has_index cs index ≡ true → (e : Entry B) × IsIn e cs × (e.index ≡ index)
there_index [] index h = absurd (let never = h in cc)
there_index (c ∷ cs) index h = elim (or_cases (bytes_eq c.index index) (has_index cs index) h) [
  | inl here ↦ (c, inl refl, (bytes_eq-Decides c.index index).0 here)
  | inr later ↦ let k = there_index cs index later in (k.0, inr k.1, k.2)
]

module _ {B : Type 0} (es cs : List (Entry B)) where
  -- what stays of the old entries
  abbrev retained : Entry B → Bool
  retained x = not (has_index cs x.index)

  pub in_overwritten : (e : Entry B) → IsIn e (overwritten es cs) → IsIn e cs ⊎ (IsIn e es × (has_index cs e.index ≡ false))
  unfolding overwritten
  in_overwritten e there = elim (IsIn-append e cs (filter retained es) there) [
    | inl new ↦ inl new
    | inr old ↦ inr (of_filter e retained es old, not-true (has_index cs e.index) (passes e retained es old))
  ]

  pub overwritten_new : (e : Entry B) → IsIn e cs → IsIn e (overwritten es cs)
  unfolding overwritten
  overwritten_new e there = IsIn-append_left e cs (filter retained es) there

  pub overwritten_old : (e : Entry B) → IsIn e es → has_index cs e.index ≡ false → IsIn e (overwritten es cs)
  unfolding overwritten
  overwritten_old e there off = IsIn-append_right e cs (filter retained es) (IsIn-filter e retained es (ap not off) there)

  -- an index that an old entry has is still there
  pub overwritten_index : (e : Entry B) → IsIn e es → (x : Entry B) × IsIn x (overwritten es cs) × (x.index ≡ e.index)
  unfolding overwritten
  overwritten_index e there = (elim (has_index cs e.index) as (λ v. has_index cs e.index ≡ v → (x : Entry B) × IsIn x (cs ++ filter retained es) × (x.index ≡ e.index)) [
    | true ↦ λ on. let k = there_index cs e.index on in (k.0, IsIn-append_left k.0 cs (filter retained es) k.1, k.2)
    | false ↦ λ off. (e, overwritten_old e there off, refl)
  ]) refl

  -- a map overwritten by a map is a map
  pub IsMap-overwritten : IsMap es → IsMap cs → IsMap (overwritten es cs)
  unfolding overwritten
  IsMap-overwritten old new = IsMap-append cs (filter retained es) new (IsMap-filter retained es old) (λ c e in_c in_e same.
      let on = index_there cs c e.index in_c same in
      let off = not-true (has_index cs e.index) (passes e retained es in_e) in cc)

under_from-overwritten : {B : Type 0} (k : ℕ) (p : List Bool) (es cs : List (Entry B)) → under_from k p (overwritten es cs) ≡ overwritten (under_from k p es) (under_from k p cs)
under_from-overwritten k [] es cs = refl
under_from-overwritten k (b ∷ p) es cs = ap (λ xs. under_from (suc k) p xs) (half-overwritten b k es cs) ∙ under_from-overwritten (suc k) p (half b k es) (half b k cs)

-- what lies under a prefix is what lay there, overwritten by the changes there
pub under-overwritten : {B : Type 0} (p : List Bool) (es cs : List (Entry B)) → under p (overwritten es cs) ≡ overwritten (under p es) (under p cs)
under-overwritten p es cs = under_from-overwritten 0 p es cs

under_from-apart : {B : Type 0} (k : ℕ) (p : List Bool) (bits : ℕ → Bool) (es : List (Entry B)) → k + length p ≤ 256 → IsMap es → BeginAlike k bits es → AreApart (k + length p) (under_from k p es)
unfolding AreApart
under_from-apart k [] bits es short map alike =
    let here : k ≡ k + 0 = omega arith in
    subst (λ n. AreApart n es) here (apart_within (256 - k) k bits es (omega arith) map alike)
under_from-apart k (b ∷ p) bits es short map alike =
    let deeper : suc k + length p ≡ k + suc (length p) = omega arith in
    subst (λ n. AreApart n (under_from (suc k) p (half b k es))) deeper
    (under_from-apart (suc k) p (next_bits k bits b) (half b k es) (omega arith) (IsMap-filter _ es map) (BeginAlike-half b k bits es alike))

-- the entries of a map under a prefix part within the bits that follow it
pub under-apart : {B : Type 0} (p : List Bool) (es : List (Entry B)) → length p ≤ 256 → IsMap es → AreApart (length p) (under p es)
under-apart p es short map =
    let here : 0 + length p ≡ length p = omega arith in
    subst (λ n. AreApart n (under p es)) here (under_from-apart 0 p (λ _. false) es (omega arith) map (alike_none es))
