-- Nodes and paths do not depend on what the commitments commit to.
use Rattle.std.proofs.Common.{◌≡◌, ℕ, zero, suc, ◌-◌, List, [], ◌∷◌, length, Bool, true, false, refl, ap, ◌∙◌, not, map, cond}
use Rattle.std.specs.List.{filter}
use Rattle.coniks_proof.specs.Bits.{bit_at, turns, child}
use Rattle.coniks_proof.specs.Entries.{Entry, backed_by, half}
use Rattle.coniks_proof.specs.Hashing.{Hashing}
use Rattle.coniks_proof.specs.Preimages.{inner_preimage}
use Rattle.coniks_proof.specs.Tree.{node_below, node}
use Rattle.coniks_proof.specs.Paths.{siblings_below, siblings, end_below, end_of}

-- a test that doesn't read the data behind a commitment
pub filter-backed : {B C : Type 0} (f : B → C) (p : Entry B → Bool) (q : Entry C → Bool) → ((e : Entry B) → q (backed_by f e) ≡ p e) → (es : List (Entry B))
    → filter q (map (backed_by f) es) ≡ map (backed_by f) (filter p es)
filter-backed f p q same [] = refl
filter-backed {B} {C} f p q same (e ∷ es) =
    ap (λ b. cond b (backed_by f e ∷ filter q (map (backed_by f) es)) (filter q (map (backed_by f) es))) (same e)
    ∙ elim (p e) as (λ b. cond b (backed_by f e ∷ filter q (map (backed_by f) es)) (filter q (map (backed_by f) es)) ≡ map (backed_by f) (cond b (e ∷ filter p es) (filter p es))) [
      | true ↦ ap (λ xs. backed_by f e ∷ xs) (filter-backed f p q same es)
      | false ↦ filter-backed f p q same es
    ]

pub half-backed : {B C : Type 0} (f : B → C) (b : Bool) (k : ℕ) (es : List (Entry B)) → half b k (map (backed_by f) es) ≡ map (backed_by f) (half b k es)
half-backed f b k es = filter-backed f (λ e. turns b k e.index) (λ e. turns b k e.index) (λ e. refl) es

node_below-backed : {B C : Type 0} (f : B → C) (by : Hashing) (h : ℕ) (p : List Bool) (es : List (Entry B))
    → node_below by h p (map (backed_by f) es) ≡ node_below by h p es
unfolding node_below
node_below-backed f by h p [] = refl
node_below-backed f by h p (e ∷ []) = refl
node_below-backed f by zero p (e ∷ d ∷ es) = refl
node_below-backed f by (suc h) p (e ∷ d ∷ es) =
    let at : (b : Bool) → node_below by h (child p b) (half b (length p) (map (backed_by f) (e ∷ d ∷ es))) ≡ node_below by h (child p b) (half b (length p) (e ∷ d ∷ es)) =
    λ b. ap (node_below by h (child p b)) (half-backed f b (length p) (e ∷ d ∷ es)) ∙ node_below-backed f by h (child p b) (half b (length p) (e ∷ d ∷ es)) in
    ap (λ x. by.hash (inner_preimage x (node_below by h (child p true) (half true (length p) (map (backed_by f) (e ∷ d ∷ es)))))) (at false)
    ∙ ap (λ x. by.hash (inner_preimage (node_below by h (child p false) (half false (length p) (e ∷ d ∷ es))) x)) (at true)

-- a node doesn't depend on the data behind its commitments
pub node-backed : {B C : Type 0} (f : B → C) (by : Hashing) (p : List Bool) (es : List (Entry B)) → node by p (map (backed_by f) es) ≡ node by p es
unfolding node
node-backed f by p es = node_below-backed f by (256 - length p) p es

siblings_below-backed : {B C : Type 0} (f : B → C) (by : Hashing) (h : ℕ) (p : List Bool) (j : List ℕ) (es : List (Entry B))
    → siblings_below by h p j (map (backed_by f) es) ≡ siblings_below by h p j es
unfolding siblings_below
siblings_below-backed f by h p j [] = refl
siblings_below-backed f by h p j (e ∷ []) = refl
siblings_below-backed f by zero p j (e ∷ d ∷ es) = refl
siblings_below-backed f by (suc h) p j (e ∷ d ∷ es) =
    let b = bit_at j (length p) in
    let c = not b in
    let beside = ap (node by (child p c)) (half-backed f c (length p) (e ∷ d ∷ es)) ∙ node-backed f by (child p c) (half c (length p) (e ∷ d ∷ es)) in
    let below = ap (siblings_below by h (child p b) j) (half-backed f b (length p) (e ∷ d ∷ es)) ∙ siblings_below-backed f by h (child p b) j (half b (length p) (e ∷ d ∷ es)) in
    ap (λ x. x ∷ siblings_below by h (child p b) j (half b (length p) (map (backed_by f) (e ∷ d ∷ es)))) beside
    ∙ ap (λ xs. node by (child p c) (half c (length p) (e ∷ d ∷ es)) ∷ xs) below

-- nor do the siblings of a path
pub siblings-backed : {B C : Type 0} (f : B → C) (by : Hashing) (p : List Bool) (j : List ℕ) (es : List (Entry B))
    → siblings by p j (map (backed_by f) es) ≡ siblings by p j es
unfolding siblings
siblings-backed f by p j es = siblings_below-backed f by (256 - length p) p j es

end_below-backed : {B C : Type 0} (f : B → C) (h : ℕ) (p : List Bool) (j : List ℕ) (es : List (Entry B)) → end_below h p j (map (backed_by f) es) ≡ map (backed_by f) (end_below h p j es)
unfolding end_below
end_below-backed f h p j [] = refl
end_below-backed f h p j (e ∷ []) = refl
end_below-backed f zero p j (e ∷ d ∷ es) = refl
end_below-backed f (suc h) p j (e ∷ d ∷ es) =
    let b = bit_at j (length p) in
    ap (end_below h (child p b) j) (half-backed f b (length p) (e ∷ d ∷ es)) ∙ end_below-backed f h (child p b) j (half b (length p) (e ∷ d ∷ es))

-- if the data behind the commitments is mapped, so is the end of a path
pub end_of-backed : {B C : Type 0} (f : B → C) (p : List Bool) (j : List ℕ) (es : List (Entry B)) → end_of p j (map (backed_by f) es) ≡ map (backed_by f) (end_of p j es)
unfolding end_of
end_of-backed f p j es = end_below-backed f (256 - length p) p j es
