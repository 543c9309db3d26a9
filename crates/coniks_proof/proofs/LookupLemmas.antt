-- The path to an index is accepted, with the key that is registered there or as absent.
use Rattle.std.proofs.Common.{◌≡◌, ◌≢◌, ℕ, zero, suc, ◌+◌, ◌<◌, ◌≤◌, List, [], ◌∷◌, length, map, Bool, true, false, refl, sym, ap, subst, ◌∙◌, arith, not, cond, inl, inr, Option, Some, None, zero-add, add-one, if◌then◌else◌}
use Rattle.std.proofs.lemmas.Bool.{cases_lt}
use Rattle.coniks_proof.specs.Bits.{bit_at, child, turns, first_bits}
use Rattle.coniks_proof.specs.Entries.{Entry, IsIn, half}
use Rattle.coniks_proof.specs.Changes.{AreApart}
use Rattle.coniks_proof.specs.Hashing.{Hashing, hashing}
use Rattle.coniks_proof.specs.Maps.{IsMap}
use Rattle.coniks_proof.specs.Preimages.{empty_preimage, leaf_preimage, inner_preimage}
use Rattle.coniks_proof.specs.Tree.{node}
use Rattle.coniks_proof.specs.Paths.{siblings, end_of, EndIs, digests, IsPath}
use Rattle.coniks_proof.specs.Proofs.{end_preimage, joined, preimage, Accepts, EndFits, answer_of}
use Rattle.coniks_proof.specs.Registry.{Registered, Registry, has_name, bound_to, key_of, commitment_to, entry_of, entries_of, root_of, IsFree, IsLength, AreWithin}
use Rattle.coniks_proof.specs.declared.values.Digest.{Digest}
use Rattle.coniks_proof.specs.declared.paths.Proof.{Proof}
use Rattle.coniks_proof.specs.declared.paths.End.{End}
use Rattle.coniks_proof.specs.declared.paths.End.TheVariants.{Empty, Other, Here}
use Rattle.coniks_proof.proofs.NodeLemmas.{node-empty, node-leaf, siblings-inner, siblings-empty, siblings-leaf, end_of-inner, end_of-empty, end_of-leaf, length-child}
use Rattle.coniks_proof.proofs.ChangeLemmas.{apart-halves, apart-last}
use Rattle.coniks_proof.proofs.MapLemmas.{BeginAlike, IsMap-apart, IsIn-filter, of_filter}
use Rattle.coniks_proof.proofs.ClimbLemmas.{climb, onwards, climbs}
use Rattle.coniks_proof.proofs.PrefixLemmas.{length-first_bits, first_bits-same}
use Rattle.coniks_proof.proofs.RegistryLemmas.{in_entries, entry_in, bound_in, named_in, unnamed, within}

-- ---- what stands at the end of the way

first_same : {B : Type 0} (e f : Entry B) → (let es : List (Entry B) = e ∷ [] in es ≡ f ∷ []) → e ≡ f
first_same e f same = cc

turns_own : (b : Bool) (k : ℕ) (x : List ℕ) → bit_at x k ≡ b → turns b k x ≡ true
turns_own true k x is = is
turns_own false k x is = ap not is

-- what stands at the end of the way is one of the entries
pub end_of-in : {B : Type 0} (h : ℕ) (p : List Bool) (j : List ℕ) (es : List (Entry B)) (e : Entry B) → length p + h ≡ 256 → AreApart (length p) es → end_of p j es ≡ e ∷ [] → IsIn e es
end_of-in {B} h p j [] e full apart is = let none : (let xs : List (Entry B) = [] in xs ≡ e ∷ []) = sym (end_of-empty p j) ∙ is in cc
end_of-in {B} h p j (x ∷ []) e full apart is = let one : (let xs : List (Entry B) = x ∷ [] in xs ≡ e ∷ []) = sym (end_of-leaf p j x) ∙ is in inl (first_same x e one)
end_of-in zero p j (x ∷ y ∷ es) e full apart is =
    let last : length p ≡ 256 = omega arith in
    let few = apart-last (x ∷ y ∷ es) (subst (λ k. AreApart k (x ∷ y ∷ es)) last apart) in absurd (omega (arith, few))
end_of-in (suc h) p j (x ∷ y ∷ es) e full apart is =
    let b = bit_at j (length p) in
    let deeper = length-child p b in
    let short : length p < 256 = omega arith in
    let many : 2 ≤ length (x ∷ y ∷ es) = omega arith in
    of_filter e (λ z. turns b (length p) z.index) (x ∷ y ∷ es)
    (end_of-in h (child p b) j (half b (length p) (x ∷ y ∷ es)) e (omega (arith, deeper))
    (subst (λ k. AreApart k (half b (length p) (x ∷ y ∷ es))) (sym deeper) (apart-halves b (length p) (x ∷ y ∷ es) short apart))
    (sym (end_of-inner p j (x ∷ y ∷ es) b refl short many) ∙ is))

-- the entry of an index stands at the end of the way to it
pub end_of-present : {B : Type 0} (h : ℕ) (p : List Bool) (j : List ℕ) (es : List (Entry B)) (e : Entry B)
    → length p + h ≡ 256 → AreApart (length p) es → e.index ≡ j → IsIn e es → end_of p j es ≡ e ∷ []
end_of-present h p j [] e full apart same in_es = absurd in_es
end_of-present h p j (x ∷ []) e full apart same (inl here) = end_of-leaf p j x ∙ ap (λ y. y ∷ []) here
end_of-present h p j (x ∷ []) e full apart same (inr there) = absurd there
end_of-present zero p j (x ∷ y ∷ es) e full apart same in_es =
    let last : length p ≡ 256 = omega arith in
    let few = apart-last (x ∷ y ∷ es) (subst (λ k. AreApart k (x ∷ y ∷ es)) last apart) in absurd (omega (arith, few))
end_of-present (suc h) p j (x ∷ y ∷ es) e full apart same in_es =
    let b = bit_at j (length p) in
    let deeper = length-child p b in
    let short : length p < 256 = omega arith in
    let turned : turns b (length p) e.index ≡ true = turns_own b (length p) e.index (ap (λ i. bit_at i (length p)) same) in
    end_of-inner p j (x ∷ y ∷ es) b refl short (omega arith)
    ∙ end_of-present h (child p b) j (half b (length p) (x ∷ y ∷ es)) e (omega (arith, deeper))
    (subst (λ k. AreApart k (half b (length p) (x ∷ y ∷ es))) (sym deeper) (apart-halves b (length p) (x ∷ y ∷ es) short apart)) same
    (IsIn-filter e (λ z. turns b (length p) z.index) (x ∷ y ∷ es) turned in_es)

turned_own : (b : Bool) (k : ℕ) (x : List ℕ) → turns b k x ≡ true → bit_at x k ≡ b
turned_own true k x t = t
turned_own false k x t = elim (bit_at x k) as (λ v. not v ≡ true → v ≡ false) [ true ↦ λ h. cc | false ↦ λ h. refl ] t

one_more : (k : ℕ) (j x : List ℕ) → ((i : ℕ) → i < k → bit_at x i ≡ bit_at j i) → bit_at x k ≡ bit_at j k → (i : ℕ) → i < suc k → bit_at x i ≡ bit_at j i
one_more k j x alike last i below = elim (cases_lt i k) [
  | inl before ↦ alike i before
  | inr after ↦ let same : i ≡ k = omega arith in ap (bit_at x) same ∙ last ∙ ap (bit_at j) (sym same)
]

alike-half : {B : Type 0} (k : ℕ) (j : List ℕ) (b : Bool) (es : List (Entry B)) → bit_at j k ≡ b → BeginAlike k (bit_at j) es → BeginAlike (suc k) (bit_at j) (half b k es)
alike-half k j b [] is alike = tt
alike-half k j b (e ∷ es) is alike =
    (elim (turns b k e.index) as (λ v. turns b k e.index ≡ v → BeginAlike (suc k) (bit_at j) (cond v (e ∷ half b k es) (half b k es))) [
      | true ↦ λ t. (one_more k j e.index alike.0 (turned_own b k e.index t ∙ sym is), alike-half k j b es is alike.1)
      | false ↦ λ t. alike-half k j b es is alike.1
    ]) refl

-- what stands at the end of the way agrees with the index as far as the way goes
pub end_of-alike : {B : Type 0} (by : Hashing) (h : ℕ) (p : List Bool) (j : List ℕ) (es : List (Entry B))
    → length p + h ≡ 256 → AreApart (length p) es → BeginAlike (length p) (bit_at j) es
    → BeginAlike (length p + length (siblings by p j es)) (bit_at j) (end_of p j es)
end_of-alike by h p j [] full apart alike = rw (siblings-empty _ by p j, end_of-empty p j) tt
end_of-alike by h p j (x ∷ []) full apart alike =
    let same : length p ≡ length p + 0 = omega arith in rw (siblings-leaf by p j x, end_of-leaf p j x) (subst (λ k. BeginAlike k (bit_at j) (x ∷ [])) same alike)
end_of-alike by zero p j (x ∷ y ∷ es) full apart alike =
    let last : length p ≡ 256 = omega arith in
    let few = apart-last (x ∷ y ∷ es) (subst (λ k. AreApart k (x ∷ y ∷ es)) last apart) in absurd (omega (arith, few))
end_of-alike by (suc h) p j (x ∷ y ∷ es) full apart alike =
    let b = bit_at j (length p) in
    let deeper = length-child p b in
    let short : length p < 256 = omega arith in
    let many : 2 ≤ length (x ∷ y ∷ es) = omega arith in
    let below = end_of-alike by h (child p b) j (half b (length p) (x ∷ y ∷ es)) (omega (arith, deeper))
    (subst (λ k. AreApart k (half b (length p) (x ∷ y ∷ es))) (sym deeper) (apart-halves b (length p) (x ∷ y ∷ es) short apart))
    (subst (λ k. BeginAlike k (bit_at j) (half b (length p) (x ∷ y ∷ es))) (sym deeper) (alike-half (length p) j b (x ∷ y ∷ es) refl alike)) in
    let ss = siblings by (child p b) j (half b (length p) (x ∷ y ∷ es)) in
    let longer : length (child p b) + length ss ≡ length p + suc (length ss) = omega (arith, deeper) in
    rw (siblings-inner by p j (x ∷ y ∷ es) b refl short many, end_of-inner p j (x ∷ y ∷ es) b refl short many)
    (subst (λ k. BeginAlike k (bit_at j) (end_of (child p b) j (half b (length p) (x ∷ y ∷ es)))) longer below)

-- at most 256 siblings
pub length-siblings : {B : Type 0} (by : Hashing) (h : ℕ) (p : List Bool) (j : List ℕ) (es : List (Entry B))
    → length p + h ≡ 256 → AreApart (length p) es → length (siblings by p j es) ≤ h
length-siblings by h p j [] full apart = rw (siblings-empty _ by p j) (omega arith)
length-siblings by h p j (x ∷ []) full apart = rw (siblings-leaf by p j x) (omega arith)
length-siblings by zero p j (x ∷ y ∷ es) full apart =
    let last : length p ≡ 256 = omega arith in
    let few = apart-last (x ∷ y ∷ es) (subst (λ k. AreApart k (x ∷ y ∷ es)) last apart) in absurd (omega (arith, few))
length-siblings by (suc h) p j (x ∷ y ∷ es) full apart =
    let b = bit_at j (length p) in
    let deeper = length-child p b in
    let short : length p < 256 = omega arith in
    let below = length-siblings by h (child p b) j (half b (length p) (x ∷ y ∷ es)) (omega (arith, deeper))
    (subst (λ k. AreApart k (half b (length p) (x ∷ y ∷ es))) (sym deeper) (apart-halves b (length p) (x ∷ y ∷ es) short apart)) in
    rw (siblings-inner by p j (x ∷ y ∷ es) b refl short (omega arith)) (omega (arith, below))

-- ---- the climb over a proof's siblings

joined_if : (b : Bool) (s u : List ℕ) → joined b s u ≡ (if b then inner_preimage s u else inner_preimage u s)
joined_if true s u = refl
joined_if false s u = refl

pub preimage-climb : (by : Hashing) (j : List ℕ) (level : ℕ) (ss : List Digest) (a : End)
    → by.hash (preimage by j level ss a) ≡ climb by.hash j level (digests ss) (by.hash (end_preimage by j (level + length ss) a))
preimage-climb by j level [] a = let same : level ≡ level + 0 = omega arith in ap (λ l. by.hash (end_preimage by j l a)) same
preimage-climb by j level (s ∷ ss) a =
    let ih = preimage-climb by j (level + 1) ss a in
    let deeper : level + 1 + length ss ≡ level + suc (length ss) = omega arith in
    let below : by.hash (preimage by j (level + 1) ss a) ≡ climb by.hash j (suc level) (digests ss) (by.hash (end_preimage by j (level + suc (length ss)) a)) =
    ih ∙ ap (λ l. climb by.hash j (level + 1) (digests ss) (by.hash (end_preimage by j l a))) deeper
    ∙ ap (λ l. climb by.hash j l (digests ss) (by.hash (end_preimage by j (level + suc (length ss)) a))) (add-one level) in
    ap by.hash (ap (joined (bit_at j level) s.0) below ∙ joined_if (bit_at j level) s.0 _)

onwards-first_bits : (j : List ℕ) (k n : ℕ) → onwards (first_bits j k) j n ≡ first_bits j (k + n)
unfolding first_bits
onwards-first_bits j k zero = let same : k ≡ k + 0 = omega arith in ap (first_bits j) same
onwards-first_bits j k (suc n) =
    let deeper : suc k + n ≡ k + suc n = omega arith in
    ap (λ l. onwards (child (first_bits j k) (bit_at j l)) j n) (length-first_bits j k) ∙ onwards-first_bits j (suc k) n ∙ ap (first_bits j) deeper

onwards_root : (j : List ℕ) (n : ℕ) → onwards [] j n ≡ first_bits j n
unfolding first_bits
onwards_root j n = onwards-first_bits j 0 n ∙ ap (first_bits j) (zero-add n)

length-digests : (ss : List Digest) → length (digests ss) ≡ length ss
length-digests [] = refl
length-digests (s ∷ ss) = ap suc (length-digests ss)

-- ---- the path in a registry's tree

-- what stands at the end of a way is a binding's entry
at_end : (hash index_of : List ℕ → List ℕ) (registry : Registry) (j : List ℕ) (e : Entry Registered) → IsMap (entries_of hash index_of registry)
    → end_of [] j (entries_of hash index_of registry) ≡ e ∷ [] → (entry_of hash index_of e.behind ≡ e) × IsIn e.behind registry
at_end hash index_of registry j e map is = in_entries hash index_of e registry (end_of-in 256 [] j (entries_of hash index_of registry) e refl (IsMap-apart (entries_of hash index_of registry) map) is)

-- the hash of the path's end is the node's
end_node : (hash index_of : List ℕ → List ℕ) (nonce j : List ℕ) (registry : Registry) (n : ℕ) (a : End)
    → IsMap (entries_of hash index_of registry) → EndIs j (end_of [] j (entries_of hash index_of registry)) a
    → node (hashing hash nonce) (onwards [] j n) (end_of [] j (entries_of hash index_of registry)) ≡ hash (end_preimage (hashing hash nonce) j n a)
end_node hash index_of nonce j registry n Empty map is = ap (node (hashing hash nonce) (onwards [] j n)) is ∙
    node-empty _ (hashing hash nonce) (onwards [] j n) ∙ ap (λ p. hash (empty_preimage nonce p)) (onwards_root j n)
end_node hash index_of nonce j registry n (Other other c) map is =
    let size : length (onwards [] j n) ≡ n = ap length (onwards_root j n) ∙ length-first_bits j n in
    ap (node (hashing hash nonce) (onwards [] j n)) is.1.1 ∙ node-leaf (hashing hash nonce) (onwards [] j n) (record { index = other.0; commitment = c.0; behind = is.1.0 })
    ∙ ap (λ l. hash (leaf_preimage nonce other.0 l c.0)) size
end_node hash index_of nonce j registry n (Here name key o) map is =
    let size : length (onwards [] j n) ≡ n = ap length (onwards_root j n) ∙ length-first_bits j n in
    let b : Registered = record { name = name; key = key; opening = o.0 } in
    let e : Entry Registered = record { index = j; commitment = is.0; behind = b } in
    let own : entry_of hash index_of b ≡ e = (at_end hash index_of registry j e map is.1).0 in
    let committed : is.0 ≡ commitment_to hash b = ap (λ (x : Entry Registered). x.commitment) (sym own) in
    ap (node (hashing hash nonce) (onwards [] j n)) is.1 ∙ node-leaf (hashing hash nonce) (onwards [] j n) e
    ∙ ap (λ l. hash (leaf_preimage nonce j l is.0)) size ∙ ap (λ c. hash (leaf_preimage nonce j n c)) committed

-- the path carries the root up
pub path_root : (hash index_of : List ℕ → List ℕ) (nonce : List ℕ) (registry : Registry) (j : List ℕ) (proof : Proof)
    → IsMap (entries_of hash index_of registry) → IsPath (hashing hash nonce) (entries_of hash index_of registry) j proof
    → hash (preimage (hashing hash nonce) j 0 proof.siblings proof.end) ≡ root_of hash index_of nonce registry
path_root hash index_of nonce registry j proof map path =
    let es = entries_of hash index_of registry in
    let ss = siblings (hashing hash nonce) [] j es in
    let size : 0 + length proof.siblings ≡ length ss = zero-add _ ∙ sym (length-digests proof.siblings) ∙ ap length path.siblings_are in
    preimage-climb (hashing hash nonce) j 0 proof.siblings proof.end
    ∙ ap (λ l. climb hash j 0 (digests proof.siblings) (hash (end_preimage (hashing hash nonce) j l proof.end))) size
    ∙ ap (λ ds. climb hash j 0 ds (hash (end_preimage (hashing hash nonce) j (length ss) proof.end))) path.siblings_are
    ∙ ap (climb hash j 0 ss) (sym (end_node hash index_of nonce j registry (length ss) proof.end map path.end_is))
    ∙ climbs (hashing hash nonce) 256 [] j es refl (IsMap-apart es map)

pub path_depth : (hash index_of : List ℕ → List ℕ) (nonce : List ℕ) (registry : Registry) (j : List ℕ) (proof : Proof)
    → IsMap (entries_of hash index_of registry) → IsPath (hashing hash nonce) (entries_of hash index_of registry) j proof
    → length proof.siblings ≡ length (siblings (hashing hash nonce) [] j (entries_of hash index_of registry)) × (length proof.siblings ≤ 256)
path_depth hash index_of nonce registry j proof map path =
    let es = entries_of hash index_of registry in
    let size : length proof.siblings ≡ length (siblings (hashing hash nonce) [] j es) = sym (length-digests proof.siblings) ∙ ap length path.siblings_are in
    let few = length-siblings (hashing hash nonce) 256 [] j es refl (IsMap-apart es map) in
    (size, omega (arith, few, size))

-- the bits of the other index, as far as the path goes
other_on_path : {B : Type 0} (by : Hashing) (es : List (Entry B)) (j : List ℕ) (n : ℕ) (e : Entry B) → IsMap es
    → n ≡ length (siblings by [] j es) → end_of [] j es ≡ e ∷ [] → first_bits e.index n ≡ first_bits j n
other_on_path {B} by es j n e map size found =
    let alike = end_of-alike by 256 [] j es refl (IsMap-apart es map) (none_yet es) in
    let there : BeginAlike (0 + length (siblings by [] j es)) (bit_at j) (e ∷ []) =
    subst (BeginAlike (0 + length (siblings by [] j es)) (bit_at j)) found alike in
    first_bits-same e.index j n (λ k below. there.0 k (omega (arith, size)))
  where
    none_yet : (xs : List (Entry B)) → BeginAlike 0 (bit_at j) xs
    none_yet [] = tt
    none_yet (x ∷ xs) = ((λ i below. absurd (omega arith)), none_yet xs)

one_differs : {B : Type 0} (e : Entry B) → (let es : List (Entry B) = e ∷ [] in es ≢ [])
one_differs e same = cc

-- the binding of the name, if it has one, stands at the end of the way
stands_there : (hash index_of : List ℕ → List ℕ) (registry : Registry) (name : List ℕ) (b : Registered) → IsMap (entries_of hash index_of registry) → bound_to registry name ≡ Some b
    → end_of [] (index_of name) (entries_of hash index_of registry) ≡ entry_of hash index_of b ∷ []
stands_there hash index_of registry name b map found =
    let is = bound_in registry name b found in
    end_of-present 256 [] (index_of name) (entries_of hash index_of registry) (entry_of hash index_of b) refl
    (IsMap-apart (entries_of hash index_of registry) map) (ap index_of is.1) (entry_in hash index_of b registry is.0)

-- what the end says
record SaysOf (name : List ℕ) (index : List ℕ) (level : ℕ) (a : End) (key : Option (List ℕ)) : Type 0 where
  fits : EndFits index name level a
  stated : answer_of a ≡ key

says : (hash index_of : List ℕ → List ℕ) (nonce : List ℕ) (registry : Registry) (name : List ℕ) (n : ℕ) (a : End) (found : Option Registered)
    → IsMap (entries_of hash index_of registry) → AreWithin registry → n ≡ length (siblings (hashing hash nonce) [] (index_of name) (entries_of hash index_of registry))
    → (has_name registry name ≡ false → IsFree index_of registry (index_of name))
    → bound_to registry name ≡ found → EndIs (index_of name) (end_of [] (index_of name) (entries_of hash index_of registry)) a
    → SaysOf name (index_of name) n a (key_of registry name)
says hash index_of nonce registry name n Empty None map all size alone found is = record { fits = tt; stated = rw found refl }
says hash index_of nonce registry name n Empty (Some b) map all size alone found is =
    absurd (one_differs (entry_of hash index_of b) (sym (stands_there hash index_of registry name b map found) ∙ is))
says hash index_of nonce registry name n (Other other c) None map all size alone found is = record {
  fits = (is.0, other_on_path (hashing hash nonce) (entries_of hash index_of registry) (index_of name) n (record { index = other.0; commitment = c.0; behind = is.1.0 }) map size is.1.1);
  stated = rw found refl;
}
says hash index_of nonce registry name n (Other other c) (Some b) map all size alone found is =
    let same = first_same (record { index = other.0; commitment = c.0; behind = is.1.0 }) (entry_of hash index_of b) (sym is.1.1 ∙ stands_there hash index_of registry name b map found) in
    absurd (is.0 (ap (λ (x : Entry Registered). x.index) same ∙ ap index_of (bound_in registry name b found).1))
says hash index_of nonce registry name n (Here stored key o) None map all size alone none is =
    let b : Registered = record { name = stored; key = key; opening = o.0 } in
    let own = at_end hash index_of registry (index_of name) (record { index = index_of name; commitment = is.0; behind = b }) map is.1 in
    let at : index_of stored ≡ index_of name = ap (λ (x : Entry Registered). x.index) own.0 in
    let free : has_name registry stored ≡ false = alone (unnamed registry name none) stored at in
    let has : has_name registry stored ≡ true = named_in b registry own.1 in
    cc
says hash index_of nonce registry name n (Here stored key o) (Some x) map all size alone some is =
    let b : Registered = record { name = stored; key = key; opening = o.0 } in
    let e : Entry Registered = record { index = index_of name; commitment = is.0; behind = b } in
    let own = at_end hash index_of registry (index_of name) e map is.1 in
    let same : x ≡ b = ap (λ (y : Entry Registered). y.behind) (first_same (entry_of hash index_of x) e (sym (stands_there hash index_of registry name x map some) ∙ is.1)) in
    let bound : bound_to registry name ≡ Some b = some ∙ ap Some same in
    let good = within b registry all own.1 in
    record { fits = ((bound_in registry name b bound).1, good.1.0, good.1.1); stated = rw bound refl }

-- the path to a name's index is accepted with exactly what the name is bound to; of a name that is bound to nothing no registered
-- name may have the index
pub path_accepted : (hash index_of : List ℕ → List ℕ) (nonce root : List ℕ) (registry : Registry) (name : List ℕ) (proof : Proof)
    → IsMap (entries_of hash index_of registry) → AreWithin registry → root ≡ root_of hash index_of nonce registry
    → IsPath (hashing hash nonce) (entries_of hash index_of registry) (index_of name) proof
    → (has_name registry name ≡ false → IsFree index_of registry (index_of name)) → IsLength 255 name
    → Accepts (hashing hash nonce) root (index_of name) name proof (key_of registry name)
path_accepted hash index_of nonce root registry name proof map all root-is path alone fits =
    let deep = path_depth hash index_of nonce registry (index_of name) proof map path in
    let end = says hash index_of nonce registry name (length proof.siblings) proof.end (bound_to registry name) map all deep.0 alone refl path.end_is in
    record {
      well_formed = record { depth = deep.1; name_given = fits.0; name_fits = fits.1; end_fits = end.fits };
      root_met = path_root hash index_of nonce registry (index_of name) proof map path ∙ sym root-is;
      answered = end.stated;
    }
