-- One page after another.
use Rattle.std.proofs.Common.{◌≡◌, ℕ, zero, suc, ◌<◌, List, [], ◌∷◌, ◌++◌, map, Bool, true, false, cond, filter, take, drop, Option, Some, None}
use Rattle.std.proofs.Common.{refl, sym, ap, subst, ◌∙◌, arith, flat_map}
use Rattle.std.proofs.lemmas.List.{take-append-drop, take-map}
use Rattle.std.proofs.lemmas.List.Concat.{flat_map-cons}
use Rattle.coniks_proof.specs.Changes.{AllAfter, AreIncreasing}
use Rattle.coniks_proof.specs.Entries.{Entry, backed_by}
use Rattle.coniks_proof.specs.Maps.{IsIndex, IsMap, SameEntries}
use Rattle.coniks_proof.proofs.Lemmas.{filter-backed}
use Rattle.coniks_proof.specs.declared.values.Index.{Index}
use Rattle.coniks_tree.specs.Entries.{in_order}
use Rattle.coniks_tree.specs.Pages.{ArePages, beyond, beyond_from, is_less_from, next_after, page_of}
use Rattle.coniks_tree.specs.Parts.{entries_in, entry_of_change}
use Rattle.coniks_tree.specs.Table.{Numbered}
use Rattle.coniks_tree.specs.declared.part.Change.{Change}
use Rattle.coniks_tree.proofs.EntriesLemmas.{in_order-alike, in_order-backed, in_order-increasing}
use Rattle.coniks_tree.proofs.LessLemmas.{before-less, less-itself, less-trans, less-turned}

-- ---- entries of which each index is less than all that follow

-- the index is less than that of each entry
abbrev AllGreater : List ℕ → List Numbered → Type 0
AllGreater x [] = Unit {0}
AllGreater x (e ∷ es) = (is_less_from 0 x e.index ≡ true) × AllGreater x es

-- each entry's index is less than those that follow
abbrev Rise : List Numbered → Type 0
Rise [] = Unit {0}
Rise (e ∷ es) = AllGreater e.index es × Rise es

increasing-greater : (x : List ℕ) (es : List Numbered) → IsIndex x → AllAfter x es → AreIncreasing es → AllGreater x es
increasing-greater x [] ix after up = tt
increasing-greater x (e ∷ es) ix after up = (before-less x e.index ix up.0 after.0, increasing-greater x es ix after.1 up.2)

increasing-rise : (es : List Numbered) → AreIncreasing es → Rise es
increasing-rise [] up = tt
increasing-rise (e ∷ es) up = (increasing-greater e.index es up.0 up.1 up.2, increasing-rise es up.2)

-- the list of a map rises
in_order-rise : (es : List Numbered) → IsMap es → Rise (in_order 0 es)
in_order-rise es map = increasing-rise (in_order 0 es) (in_order-increasing es map)

greater-filter : (x : List ℕ) (f : Numbered → Bool) (es : List Numbered) → AllGreater x es → AllGreater x (filter f es)
greater-filter x f [] all = tt
greater-filter x f (e ∷ es) all = elim (f e) as (λ b. AllGreater x (cond b (e ∷ filter f es) (filter f es))) [
  | true ↦ (all.0, greater-filter x f es all.1)
  | false ↦ greater-filter x f es all.1
]

rise-filter : (f : Numbered → Bool) (es : List Numbered) → Rise es → Rise (filter f es)
rise-filter f [] up = tt
rise-filter f (e ∷ es) up = elim (f e) as (λ b. Rise (cond b (e ∷ filter f es) (filter f es))) [
  | true ↦ (greater-filter e.index f es up.0, rise-filter f es up.1)
  | false ↦ rise-filter f es up.1
]

rise-beyond : (after : Option Index) (es : List Numbered) → Rise es → Rise (beyond after es)
rise-beyond None es up = up
rise-beyond (Some index) es up = rise-filter (λ e. is_less_from 0 index.0 e.index) es up

-- those beyond an index are greater
beyond-greater : (x : List ℕ) (es : List Numbered) → AllGreater x (beyond_from 0 x es)
beyond-greater x [] = tt
beyond-greater x (e ∷ es) =
    (elim (is_less_from 0 x e.index) as (λ b. is_less_from 0 x e.index ≡ b → AllGreater x (cond b (e ∷ beyond_from 0 x es) (beyond_from 0 x es))) [
      | true ↦ λ less. (less, beyond-greater x es)
      | false ↦ λ _. beyond-greater x es
    ]) refl

-- those that are greater are beyond the index
greater-beyond : (x : List ℕ) (es : List Numbered) → AllGreater x es → beyond_from 0 x es ≡ es
greater-beyond x [] all = refl
greater-beyond x (e ∷ es) all =
    ap (λ b. cond b (e ∷ beyond_from 0 x es) (beyond_from 0 x es)) all.0 ∙ ap (λ xs. e ∷ xs) (greater-beyond x es all.1)

-- ---- beyond the last of some entries

-- the index of the last entry, or this one
abbrev last_index : List ℕ → List Numbered → List ℕ
last_index x [] = x
last_index x (e ∷ es) = last_index e.index es

last-less : (x : List ℕ) (e : Numbered) (es rest : List Numbered) → AllGreater x (e ∷ (es ++ rest)) → is_less_from 0 x (last_index e.index es) ≡ true
last-less x e [] rest all = all.0
last-less x e (f ∷ es) rest all = last-less x f es rest all.1

-- beyond the last of the first entries is the rest
beyond-last : (e : Numbered) (es rest : List Numbered) → Rise (e ∷ (es ++ rest)) → beyond_from 0 (last_index e.index es) (e ∷ (es ++ rest)) ≡ rest
beyond-last e [] rest up =
    ap (λ b. cond b (e ∷ beyond_from 0 e.index rest) (beyond_from 0 e.index rest)) (less-itself e.index) ∙ greater-beyond e.index rest up.0
beyond-last e (f ∷ es) rest up =
    let last = last_index f.index es in
    let others = beyond_from 0 last (f ∷ (es ++ rest)) in
    let no : is_less_from 0 last e.index ≡ false = less-turned e.index last (last-less e.index f es rest up.0) in
    ap (λ b. cond b (e ∷ others) others) no ∙ beyond-last f es rest up.1

-- a test that is passed only where another one is
filters_narrow : (f g : Numbered → Bool) → ((e : Numbered) → f e ≡ true → g e ≡ true) → (es : List Numbered) → filter f (filter g es) ≡ filter f es
filters_narrow f g wider [] = refl
filters_narrow f g wider (e ∷ es) =
    let rest = filters_narrow f g wider es in
    let passed = filter f es in
    (elim (g e) as (λ b. g e ≡ b → filter f (cond b (e ∷ filter g es) (filter g es)) ≡ cond (f e) (e ∷ passed) passed) [
      | true ↦ λ _. ap (λ xs. cond (f e) (e ∷ xs) xs) rest
      | false ↦ λ no. rest ∙ (elim (f e) as (λ c. f e ≡ c → passed ≡ cond c (e ∷ passed) passed) [
        | true ↦ λ yes. let also = wider e yes in cc
        | false ↦ λ _. refl
      ]) refl
    ]) refl

-- beyond an entry that is beyond an index, the same is of all and of those beyond the index
beyond_again : (after : Option Index) (e : Numbered) (es rest all : List Numbered) → e ∷ (es ++ rest) ≡ beyond after all
    → beyond_from 0 (last_index e.index es) all ≡ beyond_from 0 (last_index e.index es) (beyond after all)
beyond_again None e es rest all cut = refl
beyond_again (Some index) e es rest all cut =
    let last = last_index e.index es in
    let less : is_less_from 0 index.0 last ≡ true = last-less index.0 e es rest (subst (AllGreater index.0) (sym cut) (beyond-greater index.0 all)) in
    sym (filters_narrow (λ x. is_less_from 0 last x.index) (λ x. is_less_from 0 index.0 x.index) (λ x more. less-trans index.0 last x.index less more) all)

-- ---- the next page

next-last : (c : Change) (cs : List Change) (all : List Numbered)
    → beyond (next_after (Some c.index) cs) all ≡ beyond_from 0 (last_index (entry_of_change c).index (entries_in cs)) all
next-last c [] all = refl
next-last c (d ∷ cs) all = next-last d cs all

-- a page and what is beyond it
pub page-follows : (after : Option Index) (page : List Change) (most : ℕ) (all : List Numbered) → Rise all → entries_in page ≡ take most (beyond after all)
    → beyond after all ≡ entries_in page ++ beyond (next_after after page) all
page-follows after [] most all up is = refl
page-follows after (c ∷ cs) most all up is =
    let from = beyond after all in
    let e = entry_of_change c in
    let es = entries_in cs in
    let rest = drop most from in
    let cut : e ∷ (es ++ rest) ≡ from = ap (λ xs. xs ++ rest) is ∙ take-append-drop most from in
    let last = last_index e.index es in
    let tail : beyond_from 0 last from ≡ rest = ap (beyond_from 0 last) (sym cut) ∙ beyond-last e es rest (subst Rise (sym cut) (rise-beyond after all up)) in
    let next : beyond (next_after after (c ∷ cs)) all ≡ rest = next-last c cs all ∙ beyond_again after e es rest all cut ∙ tail in
    sym cut ∙ ap (λ xs. e ∷ (es ++ xs)) (sym next)

-- an empty page of at least one entry is the end
pub page-end : (most : ℕ) (es : List Numbered) → 0 < most → take most es ≡ [] → es ≡ []
page-end zero es some none = absurd (omega (arith, some))
page-end (suc n) [] some none = refl
page-end (suc n) (e ∷ es) some none = cc

pages_together : (after : Option Index) (pages : List (List Change)) (entries : List Numbered) → Rise (in_order 0 entries)
    → ArePages after pages entries → flat_map entries_in pages ≡ beyond after (in_order 0 entries)
pages_together after [] entries up are = sym are
pages_together after (page ∷ pages) entries up are =
    flat_map-cons entries_in page pages
    ∙ ap (λ xs. entries_in page ++ xs) (pages_together (next_after after page) pages entries up are.1)
    ∙ sym (page-follows after page are.0.0 (in_order 0 entries) up are.0.1)

-- pages from the first entry to the last are all entries
pub pages-all : (pages : List (List Change)) (entries : List Numbered) → IsMap entries → ArePages None pages entries → flat_map entries_in pages ≡ in_order 0 entries
pages-all pages entries map are = pages_together None pages entries (in_order-rise entries map) are

pub page-next : (after : Option Index) (page : List Change) (most : ℕ) (entries : List Numbered) → IsMap entries
    → entries_in page ≡ take most (beyond after (in_order 0 entries))
    → beyond after (in_order 0 entries) ≡ entries_in page ++ beyond (next_after after page) (in_order 0 entries)
page-next after page most entries map is = page-follows after page most (in_order 0 entries) (in_order-rise entries map) is

-- ---- a page of another list of the same map

-- maps with the same entries have the same pages
pub page-alike : {B : Type 0} (after : Option Index) (most : ℕ) (es fs : List (Entry B)) → IsMap es → IsMap fs → SameEntries es fs
    → page_of after most es ≡ page_of after most fs
page-alike after most es fs map map' same = ap (λ xs. take most (beyond after xs)) (in_order-alike es fs map map' same)

beyond-backed : {B C : Type 0} (f : B → C) (after : Option Index) (es : List (Entry B)) → beyond after (map (backed_by f) es) ≡ map (backed_by f) (beyond after es)
beyond-backed f None es = refl
beyond-backed f (Some index) es = filter-backed f (λ e. is_less_from 0 index.0 e.index) (λ e. is_less_from 0 index.0 e.index) (λ e. refl) es

-- a page doesn't depend on the data behind the commitments
pub page-backed : {B C : Type 0} (f : B → C) (after : Option Index) (most : ℕ) (es : List (Entry B))
    → page_of after most (map (backed_by f) es) ≡ map (backed_by f) (page_of after most es)
page-backed f after most es =
    ap (λ xs. take most (beyond after xs)) (in_order-backed f es)
    ∙ ap (take most) (beyond-backed f after (in_order 0 es))
    ∙ take-map (backed_by f) most (beyond after (in_order 0 es))
