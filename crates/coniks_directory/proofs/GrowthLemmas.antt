-- The changes from which an epoch's tree grows under a new nonce: a root's entries, overwritten by changes, in the order of their indices.
use Rattle.std.proofs.Common.{◌≡◌, ℕ, suc, ◌+◌, ◌<◌, ◌≤◌, List, [], ◌∷◌, ◌++◌, length, Bool, true, false, cond, not, refl, sym, ap, subst, ◌∙◌, arith, inl, inr}
use Rattle.coniks_directory.proofs.Words.{AreAligned, AreApart, Change, Entry, IsIn, IsMap, Numbered, bytes_eq, entry_of_change}
use Rattle.coniks_directory.proofs.Words.{filter, map-append, overwritten}
use Rattle.coniks_proof.specs.Changes.{AreInOrder, InOrderWithin}
use Rattle.coniks_proof.specs.Entries.{half}
use Rattle.coniks_proof.proofs.Lemmas.{AreIncreasing-in_order, IsIn-filter, IsMap-apart, apart-halves, apart-last, eq_apart, eq_same}
use Rattle.coniks_proof.proofs.Lemmas.{half-overwritten, in_order-split, new_apart, overwritten-empty, overwritten-nothing, overwritten-one}
use Rattle.coniks_tree.specs.Entries.{Lists, in_order}
use Rattle.coniks_tree.specs.Parts.{entries_in}
use Rattle.coniks_proof.proofs.Lemmas.{IsMap-overwritten, in_overwritten, overwritten_new, overwritten_old}
use Rattle.coniks_tree.proofs.Lemmas.{in_order-Lists, in_order-same, listed-both}

-- ---- the number of entries of a map

-- the entries of another index
others : {B : Type 0} → List ℕ → List (Entry B) → List (Entry B)
others index es = filter (λ e. not (bytes_eq e.index index)) es

fewer : {B : Type 0} (keep : Entry B → Bool) (es : List (Entry B)) → length (filter keep es) ≤ length es
fewer keep [] = omega arith
fewer keep (e ∷ es) = let rest = fewer keep es in elim (keep e) as (λ b. length (cond b (e ∷ filter keep es) (filter keep es)) ≤ suc (length es)) [ true ↦ omega arith | false ↦ omega arith ]

-- there is at least one fewer of them
one_fewer : {B : Type 0} (e : Entry B) (fs : List (Entry B)) → IsIn e fs → length (others e.index fs) < length fs
unfolding others
one_fewer e [] there = absurd there
one_fewer {B} e (f ∷ fs) (inl here) =
    let same : bytes_eq f.index e.index ≡ true = eq_same f.index e.index (ap (λ (x : Entry B). x.index) here) in
    let rest = fewer (λ x. not (bytes_eq x.index e.index)) fs in
    rw same (omega arith)
one_fewer e (f ∷ fs) (inr later) =
    let rest = one_fewer e fs later in
    elim (bytes_eq f.index e.index) as (λ b. length (cond (not b) (f ∷ others e.index fs) (others e.index fs)) < suc (length fs)) [ true ↦ omega arith | false ↦ omega arith ]

-- a map whose entries are all among others has at most as many as there are of these
pub no_more : {B : Type 0} (es fs : List (Entry B)) → IsMap es → ((e : Entry B) → IsIn e es → IsIn e fs) → length es ≤ length fs
unfolding others
no_more [] fs map all = omega arith
no_more {B} (e ∷ es) fs map all =
    let apart : (x : Entry B) → IsIn x es → not (bytes_eq x.index e.index) ≡ true = λ x there. ap not (eq_apart x.index e.index (λ same. new_apart e.index x es map.1 there (sym same))) in
    let rest = no_more es (others e.index fs) map.2 (λ x there. IsIn-filter x (λ f. not (bytes_eq f.index e.index)) fs (apart x there) (all x (inr there))) in
    let one = one_fewer e fs (all e (inl refl)) in
    omega arith

-- the empty list lists the empty map
pub nothing-Lists : (changes : List Change) (es : List Numbered) → changes ≡ [] → es ≡ [] → Lists changes es
nothing-Lists changes es none empty = rw (none, empty) (in_order-Lists [] [] (IsMap-apart [] tt) (sym (in_order-same 0 [] (AreIncreasing-in_order [] tt tt))))

-- a list that continues with some changes
pub listed-more : (was now cs : List Change) (es : List Numbered) → now ≡ was ++ cs → es ≡ entries_in cs → entries_in now ≡ entries_in was ++ es
listed-more was now cs es is same = ap entries_in is ∙ map-append entry_of_change was cs ∙ ap (λ xs. entries_in was ++ xs) (sym same)

-- ---- entries overwritten by changes, level by level

module _ (level : ℕ) (es cs : List Numbered) (aligned : AreAligned level es cs) where
  -- without changes they are the entries
  pub overlaid-same : cs ≡ [] → in_order level (overwritten es cs) ≡ es
  overlaid-same none = ap (λ xs. in_order level (overwritten es xs)) none ∙ ap (in_order level) (overwritten-nothing es) ∙ in_order-same level es aligned.old

  -- without entries they are the changes
  pub overlaid-new : es ≡ [] → in_order level (overwritten es cs) ≡ cs
  overlaid-new none = ap (λ xs. in_order level (overwritten xs cs)) none ∙ ap (in_order level) (overwritten-empty cs) ∙ in_order-same level cs aligned.new

  -- the sides are aligned at the next level
  aligned-half : (b : Bool) → level < 256 → AreAligned (suc level) (half b level es) (half b level cs)
  aligned-half b short =
      let was = in_order-split level es short aligned.old in
      let comes = in_order-split level cs short aligned.new in
      record {
        old = elim b as (λ c. AreInOrder (suc level) (half c level es)) [ true ↦ was.right | false ↦ was.left ];
        new = elim b as (λ c. AreInOrder (suc level) (half c level cs)) [ true ↦ comes.right | false ↦ comes.left ];
        apart = subst (AreApart (suc level)) (half-overwritten b level es cs) (apart-halves b level (overwritten es cs) short aligned.apart);
      }

  pub aligned-side : (b : Bool) (left right : List Numbered) → level < 256 → left ≡ half b level es → right ≡ half b level cs → AreAligned (level + 1) left right
  aligned-side b left right short old new = let deeper : level + 1 ≡ suc level = omega arith in rw (old, new, deeper) (aligned-half b short)

  -- otherwise one side comes after the other
  pub overlaid-both : (was middle now l r lc rc : List Numbered) → level < 256 → l ≡ half false level es → r ≡ half true level es → lc ≡ half false level cs → rc ≡ half true level cs
      → middle ≡ was ++ in_order (level + 1) (overwritten l lc) → now ≡ middle ++ in_order (level + 1) (overwritten r rc) → now ≡ was ++ in_order level (overwritten es cs)
  overlaid-both was middle now l r lc rc short is-l is-r is-lc is-rc left right =
      listed-both was middle now level (overwritten es cs) short
      (rw (half-overwritten false level es cs, sym is-l, sym is-lc) left) (rw (half-overwritten true level es cs, sym is-r, sym is-rc) right)

-- at the last level there is at most one entry, and the change is that entry
last_few : (xs : List Numbered) → AreInOrder 256 xs → length xs ≤ 1
unfolding AreInOrder InOrderWithin
last_few xs order = order

alone : (x : Numbered) (xs : List Numbered) → length (x ∷ xs) ≤ 1 → x ∷ [] ≡ x ∷ xs
alone x [] few = refl
alone x (y ∷ xs) few = absurd (omega arith)

overlaid-last : (es cs : List Numbered) → AreAligned 256 es cs → 0 < length cs → in_order 256 (overwritten es cs) ≡ cs
overlaid-last es [] aligned some = absurd (omega arith)
overlaid-last es (c ∷ cs) aligned some =
    let one = overwritten-one es c cs (apart-last (overwritten es (c ∷ cs)) aligned.apart) in
    ap (in_order 256) (one ∙ alone c cs (last_few (c ∷ cs) aligned.new)) ∙ in_order-same 256 (c ∷ cs) aligned.new

pub overlaid-end : (level : ℕ) (es cs : List Numbered) → level ≡ 256 → AreAligned level es cs → 0 < length cs → in_order level (overwritten es cs) ≡ cs
overlaid-end level es cs end aligned some = rw end (overlaid-last es cs (subst (λ n. AreAligned n es cs) end aligned) some)

-- ---- the whole changed map

overwritten-more : (es fs cs : List Numbered) → ((e : Numbered) → IsIn e es → IsIn e fs) → (e : Numbered) → IsIn e (overwritten es cs) → IsIn e (overwritten fs cs)
overwritten-more es fs cs all e there =
    elim (in_overwritten es cs e there) [ inl new ↦ overwritten_new fs cs e new | inr old ↦ overwritten_old fs cs e (all e old.0) old.1 ]

-- entries that are listed and then overwritten list the changed map
pub overlaid-Lists : (listed all : List Change) (es cs : List Numbered) → Lists listed es → IsMap es → IsMap cs → AreInOrder 0 cs
    → (AreAligned 0 (entries_in listed) cs → entries_in all ≡ in_order 0 (overwritten (entries_in listed) cs)) → Lists all (overwritten es cs)
overlaid-Lists listed all es cs l map own ordered is =
    let map_listed = IsMap-overwritten (entries_in listed) cs (l.once map) own in
    let apart = IsMap-apart (overwritten (entries_in listed) cs) map_listed in
    let m = in_order-Lists all (overwritten (entries_in listed) cs) apart (is (record { old = l.order; new = ordered; apart = apart })) in
    record {
      order = m.order;
      same = record {
        there = λ e there. m.same.there e (overwritten-more es (entries_in listed) cs l.same.there e there);
        back = λ e there. overwritten-more (entries_in listed) es cs l.same.back e (m.same.back e there);
      };
      once = λ _. m.once map_listed;
    }
