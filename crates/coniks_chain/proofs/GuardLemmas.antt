-- Bodies of a guard's record.
use Rattle.std.proofs.Common.{◌≡◌, ◌≢◌, ℕ, ◌+◌, ◌<◌, ◌≤◌, List, [], ◌∷◌, ◌++◌, length, length-append, take, drop, Bool, true, false, cond, map, Option, Some, None, refl, sym, ap, ◌∙◌, ⊎_elim, arith, get_or, set}
use Rattle.std.specs.List.{filter, slice_get}
use Rattle.std.specs.Option.{option_map}
use Rattle.std.proofs.lemmas.Option.{slice_get_within, slice_get-get_or, slice_get-map, same_Some}
use Rattle.std.proofs.lemmas.Bool.{cases_lt}
use Rattle.std.proofs.lemmas.List.Filters.{FiltersInPlace, FiltersInPlace-more_no, FiltersInPlace-more_set}
use Rattle.std.proofs.Math.Seq.{take-append_seam, drop-append_seam}
use Rattle.coniks_chain.specs.Entries.{IsEntry, body_bytes, entry_bytes, entry_from}
use Rattle.coniks_chain.specs.Guard.{Has, HasNotTo, bodies_in, has_same_before, raw_body}
use Rattle.coniks_chain.specs.declared.entry.Body.{Body}
use Rattle.coniks_chain.specs.declared.entry.Entry.{Entry}
use Rattle.coniks_chain.specs.declared.guard_record.RawBody.{RawBody}
use Rattle.coniks_chain.proofs.EntryLemmas.{entry_from-parts}

-- an entry is read from its bytes
pub entry_from-bytes : (e : Entry) → IsEntry e → length (entry_bytes e) ≡ 209 → entry_from (entry_bytes e) ≡ e
entry_from-bytes e sized long =
    let b : List ℕ = body_bytes e.body in
    let s : List ℕ = e.signature.0 in
    let size : length b ≡ 145 = omega (arith, long, length-append b s, sized.signature) in
    let front : take 145 (b ++ s) ≡ b = ap (λ n. take n (b ++ s)) (sym size) ∙ take-append_seam b s in
    let back : drop 145 (b ++ s) ≡ s = ap (λ n. drop n (b ++ s)) (sym size) ∙ drop-append_seam b s in
    sym (entry_from-parts (b ++ s) s e.body sized.body (sym front) (sym back))

-- the body at a place
at : (raws : List RawBody) (n : ℕ) (d : RawBody) → n < length raws → slice_get (bodies_in raws) n ≡ Some (raw_body (get_or raws n d))
at raws n d within = slice_get-map raw_body raws n ∙ ap (option_map raw_body) (slice_get-get_or raws n d within)

pub has-here : (raws : List RawBody) (n : ℕ) (d : RawBody) (found body : Body) → n < length raws → found ≡ raw_body (get_or raws n d) → found ≡ body → Has (bodies_in raws) body
has-here raws n d found body within of is = (n, at raws n d within ∙ ap Some (sym of ∙ is))

-- one place more has another body
pub none-more : (raws : List RawBody) (n : ℕ) (d : RawBody) (found body : Body) → n < length raws → found ≡ raw_body (get_or raws n d) → found ≢ body
    → HasNotTo (bodies_in raws) body n → HasNotTo (bodies_in raws) body (n + 1)
none-more raws n d found body within of differs before = λ k less there. ⊎_elim
    (λ (below : k < n). before k below there)
    (λ (le : n ≤ k).
    let here : k ≡ n = omega arith in
    differs (of ∙ same_Some (raw_body (get_or raws n d)) body (sym (at raws n d within) ∙ ap (slice_get (bodies_in raws)) (sym here) ∙ there)))
    (cases_lt k n)

within_of : (raws : List RawBody) (k : ℕ) (body : Body) (o : Option RawBody) → slice_get raws k ≡ o → option_map raw_body o ≡ Some body → k < length raws
within_of raws k body None is some = absurd (cc)
within_of raws k body (Some raw) is some = slice_get_within raws k raw is

mapped_within : (raws : List RawBody) (k : ℕ) (body : Body) → slice_get (bodies_in raws) k ≡ Some body → k < length raws
mapped_within raws k body there = within_of raws k body (slice_get raws k) refl (sym (slice_get-map raw_body raws k) ∙ there)

-- no place has it
pub none-all : (raws : List RawBody) (body : Body) (n : ℕ) → length raws ≤ n → HasNotTo (bodies_in raws) body n → ¬ Has (bodies_in raws) body
none-all raws body n all none = λ found.
    let within = mapped_within raws found.0 body found.1 in
    none found.0 (omega arith) found.1

-- a filter before and after a map
mapped-either : (b : Bool) (f : RawBody → Body) (x : RawBody) (xs : List RawBody) → map f (cond b (x ∷ xs) xs) ≡ cond b (f x ∷ map f xs) (map f xs)
mapped-either true f x xs = refl
mapped-either false f x xs = refl

pub mapped-filter : (p : Body → Bool) (f : RawBody → Body) (xs : List RawBody) → map f (filter (λ x. p (f x)) xs) ≡ filter p (map f xs)
mapped-filter p f [] = refl
mapped-filter p f (x ∷ xs) = mapped-either (p (f x)) f x (filter (λ y. p (f y)) xs) ∙ ap (λ ys. cond (p (f x)) (f x ∷ ys) ys) (mapped-filter p f xs)

-- an element within a list is the same whatever stands for the others
within-same : (ys : List RawBody) (i : ℕ) (d e : RawBody) → i < length ys → get_or ys i d ≡ get_or ys i e
within-same ys i d e within = same_Some (get_or ys i d) (get_or ys i e) (sym (slice_get-get_or ys i d within) ∙ slice_get-get_or ys i e within)

abbrev Rival : Body → RawBody → Bool
Rival body raw = has_same_before body (raw_body raw)

passes : (body found : Body) (raw : RawBody) (r b : Bool) → found ≡ raw_body raw → r ≡ has_same_before body found → r ≡ b → Rival body raw ≡ b
passes body found raw r b is reported so = ap (has_same_before body) (sym is) ∙ sym reported ∙ so

-- one place more has a rival, which is moved
pub rival-more : (body found : Body) (xs ys : List RawBody) (k i : ℕ) (d : RawBody) (r : Bool) → FiltersInPlace (Rival body) xs ys k i → i < length xs
    → found ≡ raw_body (get_or ys i d) → r ≡ has_same_before body found → r ≡ true → FiltersInPlace (Rival body) xs (set ys k (get_or ys i d)) (k + 1) (i + 1)
rival-more body found xs ys k i d r inv within is reported so =
    let here : i < length ys = omega (arith, inv.long) in
    FiltersInPlace-more_set inv here (passes body found (get_or ys i d) r true is reported so) (within-same ys i d (get_or ys i d) here)

-- one place more has none
pub other-more : (body found : Body) (xs ys : List RawBody) (k i : ℕ) (d : RawBody) (r : Bool) → FiltersInPlace (Rival body) xs ys k i → i < length xs
    → found ≡ raw_body (get_or ys i d) → r ≡ has_same_before body found → r ≡ false → FiltersInPlace (Rival body) xs ys k (i + 1)
other-more body found xs ys k i d r inv within is reported so =
    let here : i < length ys = omega (arith, inv.long) in
    FiltersInPlace-more_no inv here (passes body found (get_or ys i d) r false is reported so) (within-same ys i d (get_or ys i d) here)
