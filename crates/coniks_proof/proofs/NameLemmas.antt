-- The names of a registry that is rebound or overlaid, and clashes of their indices.
use Rattle.std.proofs.Common.{◌≡◌, ◌≢◌, ℕ, List, [], ◌∷◌, ◌++◌, Bool, true, false, refl, sym, ap, subst, ◌∙◌, cond, not, ◌||◌, ◌&&◌, ◌⊎◌, inl, inr}
use Rattle.std.proofs.lemmas.Bool.{false_from_ne_true, or_cases}
use Rattle.std.specs.List.{filter}
use Rattle.std.specs.Str.{bytes_eq}
use Rattle.std.proofs.lemmas.Slice.Eq.{bytes_eq-Decides}
use Rattle.coniks_proof.specs.Entries.{IsIn}
use Rattle.coniks_proof.specs.Maps.{IsIndex, IsNew, IsMap}
use Rattle.coniks_proof.specs.Registry.{Registered, Registry, has_name, rebound, overlaid, entries_of}
use Rattle.coniks_proof.specs.Batches.{clashes}
use Rattle.coniks_proof.proofs.MapLemmas.{IsIn-append_left, IsIn-filter, of_filter, passes}
use Rattle.coniks_proof.proofs.RegistryLemmas.{named_in}

pub eq_same : (x y : List ℕ) → x ≡ y → bytes_eq x y ≡ true
eq_same x y same = (bytes_eq-Decides x y).1 same

pub eq_apart : (x y : List ℕ) → x ≢ y → bytes_eq x y ≡ false
eq_apart x y apart = false_from_ne_true (bytes_eq x y) (λ on. apart ((bytes_eq-Decides x y).0 on))

-- a binding of this name
pub record Named (registry : Registry) (name : List ℕ) : Type 0 where
  pub bound : Registered
  pub there : IsIn bound registry
  pub named : bound.name ≡ name

pub named_of : (registry : Registry) (name : List ℕ) → has_name registry name ≡ true → Named registry name
named_of [] name h = absurd (let found = h in cc)
named_of (b ∷ bs) name h = (elim (bytes_eq b.name name) as (λ v. bytes_eq b.name name ≡ v → v || has_name bs name ≡ true → Named (b ∷ bs) name) [
  | true ↦ λ on _. record { bound = b; there = inl refl; named = (bytes_eq-Decides b.name name).0 on }
  | false ↦ λ _ k. let n = named_of bs name k in record { bound = n.bound; there = inr n.there; named = n.named }
]) refl h

pub has_of : (registry : Registry) (name : List ℕ) (b : Registered) → IsIn b registry → b.name ≡ name → has_name registry name ≡ true
has_of registry name b there same = subst (λ n. has_name registry n ≡ true) same (named_in b registry there)

-- ---- rebound

IsIn-last : {T : Type 0} (x : T) (xs : List T) → IsIn x (xs ++ x ∷ [])
IsIn-last x [] = inl refl
IsIn-last x (z ∷ xs) = inr (IsIn-last x xs)

IsIn-split : {T : Type 0} (x y : T) (xs : List T) → IsIn x (xs ++ y ∷ []) → IsIn x xs ⊎ (y ≡ x)
IsIn-split x y [] (inl here) = inr here
IsIn-split x y [] (inr later) = absurd later
IsIn-split x y (z ∷ xs) (inl here) = inl (inl here)
IsIn-split x y (z ∷ xs) (inr later) = elim (IsIn-split x y xs later) [ inl there ↦ inl (inr there) | inr same ↦ inr same ]

not_named : (b c : Registered) → not (bytes_eq c.name b.name) ≡ true → c.name ≢ b.name
not_named b c on same = let here = eq_same c.name b.name same in cc

-- the bindings of a registry that is rebound: the new one, and those of other names
pub in_rebound : (registry : Registry) (b c : Registered) → IsIn c (rebound registry b) → (b ≡ c) ⊎ (IsIn c registry × (c.name ≢ b.name))
in_rebound registry b c there = elim (IsIn-split c b (filter (λ x. not (bytes_eq x.name b.name)) registry) there) [
  | inl old ↦ inr (of_filter c (λ x. not (bytes_eq x.name b.name)) registry old, not_named b c (passes c (λ x. not (bytes_eq x.name b.name)) registry old))
  | inr same ↦ inl same
]

pub rebound_new : (registry : Registry) (b : Registered) → IsIn b (rebound registry b)
rebound_new registry b = IsIn-last b (filter (λ x. not (bytes_eq x.name b.name)) registry)

pub rebound_old : (registry : Registry) (b c : Registered) → IsIn c registry → c.name ≢ b.name → IsIn c (rebound registry b)
rebound_old registry b c there apart =
    let on : not (bytes_eq c.name b.name) ≡ true = ap not (eq_apart c.name b.name apart) in
    IsIn-append_left c (filter (λ x. not (bytes_eq x.name b.name)) registry) (b ∷ []) (IsIn-filter c (λ x. not (bytes_eq x.name b.name)) registry on there)

-- a binding that is left is a new one, or an old one whose name has no new one
pub in_overlaid : (registry : Registry) (bs : List Registered) (b : Registered) → IsIn b (overlaid registry bs) → IsIn b bs ⊎ (IsIn b registry × (has_name bs b.name ≡ false))
in_overlaid registry [] b there = inr (there, refl)
in_overlaid registry (x ∷ xs) b there = elim (in_overlaid (rebound registry x) xs b there) [
  | inl new ↦ inl (inr new)
  | inr (old, gone) ↦ elim (in_rebound registry x b old) [
    | inl same ↦ inl (inl same)
    | inr (stays, apart) ↦ inr (stays, ap (λ v. v || has_name xs b.name) (eq_apart x.name b.name (λ same. apart (sym same))) ∙ gone)
  ]
]

-- ---- names

or_assoc : (a b c : Bool) → (a || b) || c ≡ a || (b || c)
or_assoc true b c = refl
or_assoc false b c = refl

or_right : (a : Bool) → a || true ≡ true
or_right true = refl
or_right false = refl

-- two tests that hold of the same are the same
pub same_bool : (a b : Bool) → (a ≡ true → b ≡ true) → (b ≡ true → a ≡ true) → a ≡ b
same_bool true b f g = sym (f refl)
same_bool false true f g = g refl
same_bool false false f g = refl

pub has_name-append : (xs ys : List Registered) (name : List ℕ) → has_name (xs ++ ys) name ≡ has_name xs name || has_name ys name
has_name-append [] ys name = refl
has_name-append (x ∷ xs) ys name = ap (λ v. bytes_eq x.name name || v) (has_name-append xs ys name) ∙ sym (or_assoc (bytes_eq x.name name) (has_name xs name) (has_name ys name))

pub overlaid-append : (registry : Registry) (xs ys : List Registered) → overlaid registry (xs ++ ys) ≡ overlaid (overlaid registry xs) ys
overlaid-append registry [] ys = refl
overlaid-append registry (x ∷ xs) ys = overlaid-append (rebound registry x) xs ys

-- ---- maps

IsNew-retained : (hash index_of : List ℕ → List ℕ) (f : Registered → Bool) (index : List ℕ) (bs : Registry)
    → IsNew index (entries_of hash index_of bs) → IsNew index (entries_of hash index_of (filter f bs))
IsNew-retained hash index_of f index [] new = tt
IsNew-retained hash index_of f index (b ∷ bs) new = elim (f b) as (λ v. IsNew index (entries_of hash index_of (cond v (b ∷ filter f bs) (filter f bs)))) [
  | true ↦ (new.0, IsNew-retained hash index_of f index bs new.1)
  | false ↦ IsNew-retained hash index_of f index bs new.1
]

IsMap-retained : (hash index_of : List ℕ → List ℕ) (f : Registered → Bool) (bs : Registry) → IsMap (entries_of hash index_of bs) → IsMap (entries_of hash index_of (filter f bs))
IsMap-retained hash index_of f [] map = tt
IsMap-retained hash index_of f (b ∷ bs) map = elim (f b) as (λ v. IsMap (entries_of hash index_of (cond v (b ∷ filter f bs) (filter f bs)))) [
  | true ↦ (map.0, IsNew-retained hash index_of f (index_of b.name) bs map.1, IsMap-retained hash index_of f bs map.2)
  | false ↦ IsMap-retained hash index_of f bs map.2
]

IsNew-one_more : (hash index_of : List ℕ → List ℕ) (index : List ℕ) (bs : Registry) (b : Registered)
    → IsNew index (entries_of hash index_of bs) → index ≢ index_of b.name → IsNew index (entries_of hash index_of (bs ++ b ∷ []))
IsNew-one_more hash index_of index [] b new apart = (apart, tt)
IsNew-one_more hash index_of index (c ∷ bs) b new apart = (new.0, IsNew-one_more hash index_of index bs b new.1 apart)

pub IsMap-one_more : (hash index_of : List ℕ → List ℕ) (bs : Registry) (b : Registered) → IsMap (entries_of hash index_of bs)
    → IsIndex (index_of b.name) → ((c : Registered) → IsIn c bs → index_of c.name ≢ index_of b.name)
    → IsMap (entries_of hash index_of (bs ++ b ∷ []))
IsMap-one_more hash index_of [] b map index apart = (index, tt, tt)
IsMap-one_more hash index_of (c ∷ bs) b map index apart =
    (map.0, IsNew-one_more hash index_of (index_of c.name) bs b map.1 (apart c (inl refl)), IsMap-one_more hash index_of bs b map.2 index (λ d there. apart d (inr there)))

-- a registry that is rebound at an index of which no other name is, is a map
pub IsMap-rebound : (hash index_of : List ℕ → List ℕ) (registry : Registry) (b : Registered) → IsMap (entries_of hash index_of registry) → IsIndex (index_of b.name)
    → ((c : Registered) → IsIn c registry → c.name ≢ b.name → index_of c.name ≢ index_of b.name) → IsMap (entries_of hash index_of (rebound registry b))
IsMap-rebound hash index_of registry b map index apart =
    let retained : Registered → Bool = λ x. not (bytes_eq x.name b.name) in
    IsMap-one_more hash index_of (filter retained registry) b (IsMap-retained hash index_of retained registry map) index
    (λ c there. apart c (of_filter c retained registry there) (not_named b c (passes c retained registry there)))

-- ---- clashes

-- another name with the index
pub record Clash (index_of : List ℕ → List ℕ) (registry : Registry) (name : List ℕ) : Type 0 where
  pub other : List ℕ
  pub at : index_of other ≡ index_of name
  pub there : has_name registry other ≡ true
  pub apart : other ≢ name

clash_test : (index_of : List ℕ → List ℕ) (b : Registered) (name : List ℕ)
    → bytes_eq (index_of b.name) (index_of name) && not (bytes_eq b.name name) ≡ true → (index_of b.name ≡ index_of name) × (b.name ≢ name)
clash_test index_of b name on =
    (elim (bytes_eq (index_of b.name) (index_of name)) as
    (λ v. bytes_eq (index_of b.name) (index_of name) ≡ v → v && not (bytes_eq b.name name) ≡ true → (index_of b.name ≡ index_of name) × (b.name ≢ name)) [
      | true ↦ λ same h. ((bytes_eq-Decides (index_of b.name) (index_of name)).0 same, λ is. let here = eq_same b.name name is in cc)
      | false ↦ λ _ h. absurd (let never = h in cc)
    ]) refl on

pub clash_found : (index_of : List ℕ → List ℕ) (registry : Registry) (name : List ℕ) → clashes index_of registry name ≡ true → Clash index_of registry name
clash_found index_of [] name h = absurd (let never = h in cc)
clash_found index_of (b ∷ bs) name h = elim (or_cases (bytes_eq (index_of b.name) (index_of name) && not (bytes_eq b.name name)) (clashes index_of bs name) h) [
  | inl here ↦ let t = clash_test index_of b name here in record { other = b.name; at = t.0; there = named_in b (b ∷ bs) (inl refl); apart = t.1 }
  | inr later ↦ let c = clash_found index_of bs name later in
      record { other = c.other; at = c.at; there = ap (λ v. bytes_eq b.name c.other || v) c.there ∙ or_right (bytes_eq b.name c.other); apart = c.apart }
]

pub clash_of : (index_of : List ℕ → List ℕ) (registry : Registry) (name : List ℕ) (b : Registered)
    → IsIn b registry → index_of b.name ≡ index_of name → b.name ≢ name → clashes index_of registry name ≡ true
clash_of index_of [] name b there at apart = absurd there
clash_of index_of (c ∷ cs) name b (inl here) at apart =
    let on : bytes_eq (index_of c.name) (index_of name) ≡ true = eq_same (index_of c.name) (index_of name) (ap (λ (x : Registered). index_of x.name) here ∙ at) in
    let off : bytes_eq c.name name ≡ false = eq_apart c.name name (λ same. apart (ap (λ (x : Registered). x.name) (sym here) ∙ same)) in
    rw (on, off) refl
clash_of index_of (c ∷ cs) name b (inr later) at apart =
    let later' = clash_of index_of cs name b later at apart in
    ap (λ v. (bytes_eq (index_of c.name) (index_of name) && not (bytes_eq c.name name)) || v) later' ∙ or_right (bytes_eq (index_of c.name) (index_of name) && not (bytes_eq c.name name))

pub clash_made : (index_of : List ℕ → List ℕ) (registry : Registry) (name : List ℕ) → Clash index_of registry name → clashes index_of registry name ≡ true
clash_made index_of registry name c =
    let n = named_of registry c.other c.there in
    clash_of index_of registry name n.bound n.there (ap index_of n.named ∙ c.at) (λ same. c.apart (sym n.named ∙ same))

-- the clashes with two lists are those with either
pub clashes-append : (index_of : List ℕ → List ℕ) (xs ys : List Registered) (name : List ℕ) → clashes index_of (xs ++ ys) name ≡ clashes index_of xs name || clashes index_of ys name
clashes-append index_of [] ys name = refl
clashes-append index_of (x ∷ xs) ys name =
    let here = bytes_eq (index_of x.name) (index_of name) && not (bytes_eq x.name name) in
    ap (λ v. here || v) (clashes-append index_of xs ys name) ∙ sym (or_assoc here (clashes index_of xs name) (clashes index_of ys name))
