-- The number of new nodes of a changed map.
use Rattle.std.proofs.Common.{◌≡◌, ℕ, zero, suc, ◌+◌, ◌-◌, ◌<◌, ◌≤◌, nat_lt, List, [], ◌∷◌, length, Bool, true, false, refl, sym, ap, ◌∙◌, arith}
use Rattle.std.proofs.Common.{inl, inr}
use Rattle.std.proofs.lemmas.Bool.{cases_lt}
use Rattle.std.proofs.lemmas.Bool.Decides.{nat_tests}
use Rattle.coniks_proof.specs.Bits.{child}
use Rattle.coniks_proof.specs.Changes.{overwritten}
use Rattle.coniks_proof.specs.Entries.{half}
use Rattle.coniks_proof.specs.Hashing.{Hashing}
use Rattle.coniks_proof.proofs.Lemmas.{length-halves, overwritten-nothing}
use Rattle.coniks_tree.specs.Table.{Numbered, Table}
use Rattle.coniks_tree.specs.Counts.{joined_count, new_nodes, new_unchanged, new_within}
use Rattle.coniks_tree.specs.Parts.{Stands, is_made, node_count, weight_of}
use Rattle.coniks_tree.proofs.PartLemmas.{join_many}
use Rattle.coniks_tree.specs.declared.part.Part.{Part, Nothing, Entry, Kept, Made'}

-- a part of weight at most one takes one node
pub light-count : (part : Part) → weight_of part ≤ 1 → node_count part ≡ 1
light-count Nothing light = refl
light-count (Entry c) light = refl
light-count (Kept root) light = absurd (omega arith)
light-count (Made' ptr d lh rh count l r) light = absurd (omega arith)

unchanged-few : (es : List Numbered) → length es ≤ 1 → new_unchanged es ≡ 1
unchanged-few [] few = refl
unchanged-few (e ∷ []) few = refl
unchanged-few (e ∷ f ∷ es) few = absurd (omega arith)

unchanged-many : (es : List Numbered) → 2 ≤ length es → new_unchanged es ≡ 0
unchanged-many [] many = absurd (omega arith)
unchanged-many (e ∷ []) many = absurd (omega arith)
unchanged-many (e ∷ f ∷ es) many = refl

-- below the root, an unchanged part takes one node if it has at most one entry, and else none
unchanged-count : (by : Hashing) (t : Table) (part : Part) (p : List Bool) (es : List Numbered) → is_made part ≡ false → 0 < length p
    → Stands by t part p es → node_count part ≡ new_unchanged es
unchanged-count by t Nothing p es old below s = sym (unchanged-few es (omega (arith, ap length s)))
unchanged-count by t (Entry c) p es old below s = sym (unchanged-few es (omega (arith, ap length s)))
unchanged-count by t (Kept root) p es old below s = sym (unchanged-many es (s.1 below))
unchanged-count by t (Made' ptr d lh rh count l r) p es old below s = cc

pub new-unchanged : (by : Hashing) (t : Table) (part : Part) (p : List Bool) (level : ℕ) (es cs : List Numbered)
    → cs ≡ [] → is_made part ≡ false → 0 < length p
    → Stands by t part p es → node_count part ≡ new_nodes level es cs
unfolding new_nodes new_within
new-unchanged by t part p level es cs none old below s =
    unchanged-count by t part p es old below s ∙ ap (new_within (256 - level) level es) (sym none)

one-within : (height level : ℕ) (es cs : List Numbered) → length (overwritten es cs) ≤ 1 → new_within height level es cs ≡ 1
unfolding new_within
one-within height level es [] few = unchanged-few es (omega (arith, few, ap length (overwritten-nothing es)))
one-within zero level es (c ∷ cs) few = refl
one-within (suc height) level es (c ∷ cs) few = let yes : nat_lt (length (overwritten es (c ∷ cs))) 2 ≡ true = grind (arith, nat_tests, few) in rw yes refl

-- a map with at most one entry after the changes takes one node
pub new-one : (level : ℕ) (es cs : List Numbered) → length (overwritten es cs) ≤ 1 → new_nodes level es cs ≡ 1
unfolding new_nodes
new-one level es cs few = one-within (256 - level) level es cs few

many-within : (height level : ℕ) (es cs : List Numbered) → 0 < length cs → 2 ≤ length (overwritten es cs)
    → new_within (suc height) level es cs ≡ new_within height (suc level) (half false level es) (half false level cs) + new_within height (suc level) (half true level es) (half true level cs) + 1
unfolding new_within
many-within height level es [] some many = absurd (omega arith)
many-within height level es (c ∷ cs) some many = let no : nat_lt (length (overwritten es (c ∷ cs))) 2 ≡ false = grind (arith, nat_tests, many) in rw no refl

new-many : (level : ℕ) (es cs : List Numbered) → level < 256 → 0 < length cs → 2 ≤ length (overwritten es cs)
    → new_nodes level es cs ≡ new_nodes (suc level) (half false level es) (half false level cs) + new_nodes (suc level) (half true level es) (half true level cs) + 1
unfolding new_nodes
new-many level es cs short some many =
    let here : 256 - level ≡ suc (255 - level) = omega arith in
    let below : 255 - level ≡ 256 - suc level = omega arith in
    ap (λ h. new_within h level es cs) here ∙ many-within (255 - level) level es cs some many
    ∙ ap (λ h. new_within h (suc level) (half false level es) (half false level cs) + new_within h (suc level) (half true level es) (half true level cs) + 1) below

-- a part of weight at most one has as many entries as its weight
light-Stands : (by : Hashing) (t : Table) (part : Part) (p : List Bool) (es : List Numbered)
    → weight_of part ≤ 1 → Stands by t part p es → length es ≡ weight_of part
light-Stands by t Nothing p es light s = ap length s
light-Stands by t (Entry c) p es light s = ap length s
light-Stands by t (Kept root) p es light s = absurd (omega arith)
light-Stands by t (Made' ptr d lh rh count l r) p es light s = absurd (omega arith)

pub joined-light : (left right : Part) → weight_of left + weight_of right < 2 → joined_count left right ≡ 1
joined-light left right light = let yes : nat_lt (weight_of left + weight_of right) 2 ≡ true = grind (arith, nat_tests, light) in rw yes refl

pub joined-heavy : (left right : Part) → 2 ≤ weight_of left + weight_of right → joined_count left right ≡ node_count left + node_count right + 1
joined-heavy left right heavy = let no : nat_lt (weight_of left + weight_of right) 2 ≡ false = grind (arith, nat_tests, heavy) in rw no refl

-- the number of new nodes of a part, from those of its two sides
pub new_joined : (by : Hashing) (t : Table) (left right : Part) (n : ℕ) (p : List Bool) (es cs : List Numbered)
    → length p < 256 → 0 < length cs
    → node_count left ≡ new_nodes (suc (length p)) (half false (length p) es) (half false (length p) cs)
    → node_count right ≡ new_nodes (suc (length p)) (half true (length p) es) (half true (length p) cs)
    → Stands by t left (child p false) (half false (length p) (overwritten es cs))
    → Stands by t right (child p true) (half true (length p) (overwritten es cs))
    → n ≡ joined_count left right → n ≡ new_nodes (length p) es cs
new_joined by t left right n p es cs short some on-left on-right sl sr n-is = elim (cases_lt (weight_of left + weight_of right) 2) [
  | inl light ↦
      let few : length (overwritten es cs) ≤ 1 =
      omega (
        arith,
        light,
        length-halves (length p) (overwritten es cs),
        light-Stands by t left
            (child p false) _ (omega arith) sl,
        light-Stands by t right (child p true) _ (omega arith) sr,
      ) in
      n-is ∙ joined-light left right light ∙ sym (new-one (length p) es cs few)
  | inr heavy ↦
      let many : 2 ≤ length (overwritten es cs) = join_many by t left right p (overwritten es cs) heavy sl sr in
      n-is ∙ joined-heavy left right heavy ∙ ap (λ k. k + node_count right + 1) on-left ∙ ap (λ k. new_nodes (suc (length p)) (half false (length p) es) (half false (length p) cs) + k + 1) on-right
      ∙ sym (new-many (length p) es cs short some many)
]
