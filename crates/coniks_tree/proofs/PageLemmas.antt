-- Pages of the entries of a map.
use Rattle.std.proofs.Common.{◌≡◌, ℕ, zero, suc, ◌+◌, ◌<◌, ◌≤◌, List, [], ◌∷◌, ◌++◌, length, slice_get, Bool, true, false, cond, not, filter, take}
use Rattle.std.proofs.Common.{refl, sym, ap, ◌∙◌, arith, inl, inr, append_assoc, append-nil}
use Rattle.std.proofs.lemmas.List.Elements.{filter-append}
use Rattle.std.proofs.lemmas.List.{length-append, take_all, take_at}
use Rattle.std.proofs.lemmas.Option.{slice_get_cases}
use Rattle.coniks_proof.specs.Bits.{bit_at, turns}
use Rattle.coniks_proof.specs.Entries.{half}
use Rattle.coniks_tree.specs.Entries.{AreStored, entries_at, entry_at, in_order}
use Rattle.coniks_tree.specs.Pages.{beyond_from, is_less_from}
use Rattle.coniks_tree.specs.Table.{Numbered}
use Rattle.coniks_tree.specs.declared.table.Record.{Record}
use Rattle.coniks_tree.specs.declared.table.RecordNo.{RecordNo}
use Rattle.coniks_tree.proofs.EntriesLemmas.{in_order-few, in_order-half, in_order-inner}
use Rattle.coniks_tree.proofs.LessLemmas.{less-differ, less-same}

-- ---- those beyond an index, level by level

-- two tests that agree on what passes a third one
filters_agree : (test f g : Numbered → Bool) → ((e : Numbered) → test e ≡ true → f e ≡ g e) → (es : List Numbered) → filter f (filter test es) ≡ filter g (filter test es)
filters_agree test f g agree [] = refl
filters_agree test f g agree (e ∷ es) =
    let rest = filters_agree test f g agree es in
    let passed = filter test es in
    (elim (test e) as (λ b. test e ≡ b → filter f (cond b (e ∷ passed) passed) ≡ filter g (cond b (e ∷ passed) passed)) [
      | true ↦ λ yes. ap (λ b. cond b (e ∷ filter f passed) (filter f passed)) (agree e yes) ∙ ap (λ xs. cond (g e) (e ∷ xs) xs) rest
      | false ↦ λ _. rest
    ]) refl

filter-all : (es : List Numbered) → filter (λ _. true) es ≡ es
filter-all [] = refl
filter-all (e ∷ es) = ap (λ xs. e ∷ xs) (filter-all es)

filter-none : (es : List Numbered) → filter (λ _. false) es ≡ []
filter-none [] = refl
filter-none (e ∷ es) = filter-none es

not_on : (b : Bool) → not b ≡ true → b ≡ false
not_on true on = cc
not_on false on = refl

-- the index goes right: what goes left is not beyond it
beyond-passed : (k : ℕ) (x : List ℕ) (es : List Numbered) → k < 256 → bit_at x k ≡ true → beyond_from k x (half false k es) ≡ []
beyond-passed k x es short right =
    filters_agree (λ e. turns false k e.index) (λ e. is_less_from k x e.index) (λ _. false)
    (λ e left. less-differ k x e.index true false short right (not_on (bit_at e.index k) left) refl) es
    ∙ filter-none (half false k es)

-- the index goes left: all that goes right is beyond it
beyond-all : (k : ℕ) (x : List ℕ) (es : List Numbered) → k < 256 → bit_at x k ≡ false → beyond_from k x (half true k es) ≡ half true k es
beyond-all k x es short left =
    filters_agree (λ e. turns true k e.index) (λ e. is_less_from k x e.index) (λ _. true)
    (λ e right. less-differ k x e.index false true short left right refl) es
    ∙ filter-all (half true k es)

-- of what goes to the index's side, the bits below decide
beyond-below : (b : Bool) (k : ℕ) (x : List ℕ) (es : List Numbered) → k < 256 → bit_at x k ≡ b → beyond_from k x (half b k es) ≡ beyond_from (k + 1) x (half b k es)
beyond-below true k x es short at =
    filters_agree (λ e. turns true k e.index) (λ e. is_less_from k x e.index) (λ e. is_less_from (k + 1) x e.index)
    (λ e right. less-same k x e.index true true short at right refl) es
beyond-below false k x es short at =
    filters_agree (λ e. turns false k e.index) (λ e. is_less_from k x e.index) (λ e. is_less_from (k + 1) x e.index)
    (λ e left. less-same k x e.index false false short at (not_on (bit_at e.index k) left) refl) es

-- those beyond an index are those of the two sides
beyond-sides : (k : ℕ) (x : List ℕ) (es : List Numbered) → k < 256
    → beyond_from k x (in_order k es) ≡ beyond_from k x (half false k (in_order (k + 1) es)) ++ beyond_from k x (half true k (in_order (k + 1) es))
beyond-sides k x es short =
    let left = in_order-half false k (k + 1) es in
    let right = in_order-half true k (k + 1) es in
    let list = in_order-inner k es short
    ∙ ap (λ xs. xs ++ in_order (k + 1) (half true k es)) (sym left) ∙ ap (λ xs. half false k (in_order (k + 1) es) ++ xs) (sym right) in
    ap (beyond_from k x) list ∙ filter-append (λ e. is_less_from k x e.index) (half false k (in_order (k + 1) es)) (half true k (in_order (k + 1) es))

-- the index goes right: those beyond it are on the right
pub beyond-right : (k : ℕ) (x : List ℕ) (es : List Numbered) → k < 256 → bit_at x k ≡ true
    → beyond_from k x (in_order k es) ≡ beyond_from (k + 1) x (in_order (k + 1) (half true k es))
beyond-right k x es short at =
    let all = in_order (k + 1) es in
    beyond-sides k x es short ∙ ap (λ xs. xs ++ beyond_from k x (half true k all)) (beyond-passed k x all short at)
    ∙ beyond-below true k x all short at ∙ ap (beyond_from (k + 1) x) (in_order-half true k (k + 1) es)

-- the index goes left: those beyond it are some on the left, and all on the right
pub beyond-left : (k : ℕ) (x : List ℕ) (es : List Numbered) → k < 256 → bit_at x k ≡ false
    → beyond_from k x (in_order k es) ≡ beyond_from (k + 1) x (in_order (k + 1) (half false k es)) ++ in_order (k + 1) (half true k es)
beyond-left k x es short at =
    let all = in_order (k + 1) es in
    beyond-sides k x es short ∙ ap (λ xs. xs ++ beyond_from k x (half true k all)) (beyond-below false k x all short at)
    ∙ ap (λ xs. beyond_from (k + 1) x (half false k all) ++ xs) (beyond-all k x all short at)
    ∙ ap (λ xs. beyond_from (k + 1) x xs ++ half true k all) (in_order-half false k (k + 1) es)
    ∙ ap (λ xs. beyond_from (k + 1) x (in_order (k + 1) (half false k es)) ++ xs) (in_order-half true k (k + 1) es)

-- nothing is beyond an index where there is nothing
pub beyond-none : (k : ℕ) (x : List ℕ) (es : List Numbered) → es ≡ [] → beyond_from k x (in_order k es) ≡ []
beyond-none k x es none = ap (beyond_from k x) (in_order-few k es (omega (arith, ap length none)) ∙ none)

-- one entry is beyond the index, or it is not
pub beyond-one : (k : ℕ) (x : List ℕ) (es : List Numbered) (e : Numbered) (b : Bool) → es ≡ e ∷ [] → is_less_from k x e.index ≡ b
    → beyond_from k x (in_order k es) ≡ cond b es []
beyond-one k x es e b one less =
    ap (beyond_from k x) (in_order-few k es (omega (arith, ap length one)) ∙ one) ∙ ap (λ c. cond c (e ∷ []) []) less ∙ ap (λ xs. cond b xs []) (sym one)

-- ---- the first ones of a list

-- the first of a list of which the first are taken already
take_again : (n : ℕ) (xs ys : List Numbered) → take n (take n xs ++ ys) ≡ take n (xs ++ ys)
take_again zero xs ys = refl
take_again (suc n) [] ys = refl
take_again (suc n) (x ∷ xs) ys = ap (λ zs. x ∷ zs) (take_again n xs ys)

-- as many entries as places
length-entries_at : (records : List Record) (ps : List RecordNo) → AreStored (length records) ps → length (entries_at records ps) ≡ length ps
length-entries_at records [] stored = refl
length-entries_at records (p ∷ ps) stored =
    let here = entry_at p.0 (slice_get records p.0) in
    let one : length here ≡ 1 = elim (slice_get_cases records p.0).1 [
      | inl found ↦ ap (λ r. length (entry_at p.0 r)) found.2
      | inr past ↦ absurd (omega (arith, past.0, stored.0))
    ] in
    omega (arith, length-append here (entries_at records ps), one, length-entries_at records ps stored.1)

-- the page is full already
pub page-full : (records : List Record) (ps : List RecordNo) (most : ℕ) (more : List Numbered)
    → AreStored (length records) ps → length ps ≤ most → most ≤ length ps → entries_at records ps ≡ take most (entries_at records ps ++ more)
page-full records ps most more stored room full =
    sym (take_at (entries_at records ps) more most (omega (arith, length-entries_at records ps stored, room, full)))

-- the page has room for all
pub page-all : (records : List Record) (ps : List RecordNo) (most : ℕ) (whole : List Numbered)
    → AreStored (length records) ps → length ps ≤ most → entries_at records ps ≡ whole → entries_at records ps ≡ take most whole
page-all records ps most whole stored room is =
    sym (take_all most (entries_at records ps) (omega (arith, length-entries_at records ps stored, room))) ∙ ap (take most) is

-- the page continues with no entries
pub page-none : (records : List Record) (ps : List RecordNo) (most : ℕ) (none : List Numbered)
    → AreStored (length records) ps → length ps ≤ most → none ≡ [] → entries_at records ps ≡ take most (entries_at records ps ++ none)
page-none records ps most none stored room is =
    let old = entries_at records ps in
    page-all records ps most (old ++ none) stored room (sym (append-nil old) ∙ ap (λ xs. old ++ xs) (sym is))

-- the page continues with one list, then with another one
pub page-both : (most : ℕ) (old middle new first second whole : List Numbered)
    → middle ≡ take most (old ++ first) → new ≡ take most (middle ++ second) → whole ≡ first ++ second → new ≡ take most (old ++ whole)
page-both most old middle new first second whole middle-is new-is whole-is =
    new-is ∙ ap (λ xs. take most (xs ++ second)) middle-is ∙ take_again most (old ++ first) second
    ∙ ap (take most) (append_assoc old first second) ∙ ap (λ xs. take most (old ++ xs)) (sym whole-is)
