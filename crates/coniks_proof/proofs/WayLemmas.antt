-- The path to an index, level by level: its siblings and its end.
use Rattle.std.proofs.Common.{◌≡◌, ℕ, zero, suc, ◌+◌, ◌<◌, ◌≤◌, List, [], ◌∷◌, length, Bool, not, Option, Some, refl, sym, ap, subst, ◌∙◌, arith}
use Rattle.std.specs.List.{slice_get}
use Rattle.coniks_proof.specs.Bits.{bit_at, child, first_bits}
use Rattle.coniks_proof.specs.Entries.{Entry, half, under}
use Rattle.coniks_proof.specs.Changes.{AreApart}
use Rattle.coniks_proof.specs.Hashing.{Hashing}
use Rattle.coniks_proof.specs.Maps.{IsMap}
use Rattle.coniks_proof.specs.Tree.{node}
use Rattle.coniks_proof.specs.Paths.{siblings, end_of}
use Rattle.coniks_proof.proofs.PrefixLemmas.{length-first_bits}
use Rattle.coniks_proof.proofs.UnderLemmas.{under-child}
use Rattle.coniks_proof.proofs.ChangeLemmas.{apart-halves, apart-last}
use Rattle.coniks_proof.proofs.MapLemmas.{IsMap-apart}
use Rattle.coniks_proof.proofs.NodeLemmas.{siblings-empty, siblings-leaf, siblings-inner, end_of-empty, end_of-leaf, end_of-inner}

module _ {B : Type 0} (by : Hashing) (index : List ℕ) (entries : List (Entry B)) where
  -- the node beside a prefix that goes on with the bit of this level
  abbrev pub beside : List Bool → ℕ → Option (List ℕ)
  beside p l = Some (node by (child p (not (bit_at index l))) (under (child p (not (bit_at index l))) entries))

  -- from level n on the path has these siblings and this end
  pub record IsWay (n : ℕ) (ss : List (List ℕ)) (end : List (Entry B)) : Type 0 where
    pub ends : end ≡ under (first_bits index (n + length ss)) entries
    pub few : length end ≤ 1
    pub least : (l : ℕ) → l < length ss → 2 ≤ length (under (first_bits index (n + l)) entries)
    pub sides : (l : ℕ) → l < length ss → slice_get ss l ≡ beside (first_bits index (n + l)) (n + l)

  -- it ends where at most one entry is left
  stops : (n : ℕ) (p : List Bool) (es : List (Entry B)) → p ≡ first_bits index n → es ≡ under p entries → length es ≤ 1 → IsWay n [] es
  stops n p es is_p is_es few =
      let here : n ≡ n + 0 = omega arith in
      record {
        ends = is_es ∙ ap (λ q. under q entries) is_p ∙ ap (λ k. under (first_bits index k) entries) here;
        few = few;
        least = λ l less. absurd (omega arith);
        sides = λ l less. absurd (omega arith);
      }

  least_above : (n : ℕ) (ss : List (List ℕ)) (end : List (Entry B)) → 2 ≤ length (under (first_bits index n) entries) → IsWay (suc n) ss end
      → (l : ℕ) → l < suc (length ss) → 2 ≤ length (under (first_bits index (n + l)) entries)
  least_above n ss end many rest zero less = let here : n ≡ n + zero = omega arith in subst (λ k. 2 ≤ length (under (first_bits index k) entries)) here many
  least_above n ss end many rest (suc l) less = let here : suc n + l ≡ n + suc l = omega arith in subst (λ k. 2 ≤ length (under (first_bits index k) entries)) here (rest.least l (omega arith))

  sides_above : (n : ℕ) (s : List ℕ) (ss : List (List ℕ)) (end : List (Entry B)) → Some s ≡ beside (first_bits index n) n → IsWay (suc n) ss end
      → (l : ℕ) → l < suc (length ss) → slice_get (s ∷ ss) l ≡ beside (first_bits index (n + l)) (n + l)
  sides_above n s ss end first rest zero less = let here : n ≡ n + zero = omega arith in first ∙ ap (λ k. beside (first_bits index k) k) here
  sides_above n s ss end first rest (suc l) less = let here : suc n + l ≡ n + suc l = omega arith in rest.sides l (omega arith) ∙ ap (λ k. beside (first_bits index k) k) here

  -- one level above
  above : (n : ℕ) (s : List ℕ) (ss : List (List ℕ)) (end : List (Entry B)) → 2 ≤ length (under (first_bits index n) entries)
      → Some s ≡ beside (first_bits index n) n → IsWay (suc n) ss end → IsWay n (s ∷ ss) end
  above n s ss end many first rest =
      let here : suc n + length ss ≡ n + suc (length ss) = omega arith in
      record {
        ends = rest.ends ∙ ap (λ k. under (first_bits index k) entries) here;
        few = rest.few;
        least = least_above n ss end many rest;
        sides = sides_above n s ss end first rest;
      }

  -- the prefix that goes on with the index's bit
  next_bits : (n : ℕ) (p : List Bool) → p ≡ first_bits index n → length p ≡ n → child p (bit_at index (length p)) ≡ first_bits index (suc n)
  unfolding first_bits
  next_bits n p is_p at = ap (λ q. child q (bit_at index (length p))) is_p ∙ ap (λ k. child (first_bits index n) (bit_at index k)) at

  first_side : (n : ℕ) (p : List Bool) (es : List (Entry B)) → p ≡ first_bits index n → length p ≡ n → es ≡ under p entries
      → Some (node by (child p (not (bit_at index (length p)))) (half (not (bit_at index (length p))) (length p) es)) ≡ beside (first_bits index n) n
  first_side n p es is_p at is_es =
      let c = not (bit_at index (length p)) in
      let other : half c (length p) es ≡ under (child p c) entries = ap (half c (length p)) is_es ∙ sym (under-child p c entries) in
      ap (λ fs. Some (node by (child p c) fs)) other ∙ ap (λ q. beside q (length p)) is_p ∙ ap (λ k. beside (first_bits index n) k) at

  way : (h n : ℕ) (p : List Bool) (es : List (Entry B)) → n + h ≡ 256 → p ≡ first_bits index n → es ≡ under p entries → AreApart n es → IsWay n (siblings by p index es) (end_of p index es)
  way h n p [] full is_p is_es apart = rw (siblings-empty B by p index, end_of-empty {B = B} p index) (stops n p [] is_p is_es (omega arith))
  way h n p (x ∷ []) full is_p is_es apart = rw (siblings-leaf by p index x, end_of-leaf p index x) (stops n p (x ∷ []) is_p is_es (omega arith))
  way zero n p (x ∷ y ∷ es) full is_p is_es apart =
      let last : n ≡ 256 = omega arith in
      let few = apart-last (x ∷ y ∷ es) (subst (λ k. AreApart k (x ∷ y ∷ es)) last apart) in absurd (omega (arith, few))
  way (suc h) n p (x ∷ y ∷ es) full is_p is_es apart =
      let b = bit_at index (length p) in
      let at : length p ≡ n = ap length is_p ∙ length-first_bits index n in
      let short : length p < 256 = omega arith in
      let many : 2 ≤ length (x ∷ y ∷ es) = omega arith in
      let more : 2 ≤ length (under (first_bits index n) entries) = subst (λ fs. 2 ≤ length fs) (is_es ∙ ap (λ q. under q entries) is_p) many in
      let next_es : half b (length p) (x ∷ y ∷ es) ≡ under (child p b) entries = ap (half b (length p)) is_es ∙ sym (under-child p b entries) in
      let next_apart : AreApart (suc n) (half b (length p) (x ∷ y ∷ es)) = subst (λ k. AreApart (suc k) (half b (length p) (x ∷ y ∷ es))) at
      (apart-halves b (length p) (x ∷ y ∷ es) short (subst (λ k. AreApart k (x ∷ y ∷ es)) (sym at) apart)) in
      let rest = way h (suc n) (child p b) (half b (length p) (x ∷ y ∷ es)) (omega arith) (next_bits n p is_p at) next_es next_apart in
      rw (siblings-inner by p index (x ∷ y ∷ es) b refl short many, end_of-inner p index (x ∷ y ∷ es) b refl short many)
      (above n _ _ _ more (first_side n p (x ∷ y ∷ es) is_p at is_es) rest)

  no_bits : [] ≡ first_bits index 0
  unfolding first_bits
  no_bits = refl

  pub path_is : IsMap entries → IsWay 0 (siblings by [] index entries) (end_of [] index entries)
  path_is map = way 256 0 [] entries refl no_bits refl (IsMap-apart entries map)
