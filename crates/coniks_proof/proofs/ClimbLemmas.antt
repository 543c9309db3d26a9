-- The path to an index is accepted: the climb along it gives the node's hash.
use Rattle.std.proofs.Common.{◌≡◌, ℕ, zero, suc, ◌+◌, ◌<◌, ◌≤◌, List, [], ◌∷◌, length, Bool, true, false, refl, sym, ap, subst, ◌∙◌, arith, if◌then◌else◌}
use Rattle.coniks_proof.specs.Bits.{bit_at, child}
use Rattle.coniks_proof.specs.Entries.{Entry, half}
use Rattle.coniks_proof.specs.Changes.{AreApart}
use Rattle.coniks_proof.specs.Hashing.{Hashing}
use Rattle.coniks_proof.specs.Preimages.{inner_preimage}
use Rattle.coniks_proof.specs.Tree.{node}
use Rattle.coniks_proof.specs.Paths.{siblings, end_of}
use Rattle.coniks_proof.proofs.NodeLemmas.{node-inner, siblings-inner, siblings-empty, siblings-leaf, end_of-inner, end_of-empty, end_of-leaf, length-child}
use Rattle.coniks_proof.proofs.ChangeLemmas.{apart-halves, apart-last}

-- carries a hash up from below these siblings to a level
abbrev pub climb : (List ℕ → List ℕ) → List ℕ → ℕ → List (List ℕ) → List ℕ → List ℕ
climb hash index level [] bottom = bottom
climb hash index level (sibling ∷ siblings) bottom =
    let below = climb hash index (suc level) siblings bottom in
    hash (if bit_at index level then inner_preimage sibling below else inner_preimage below sibling)

-- a prefix that goes on with n bits of an index
abbrev pub onwards : List Bool → List ℕ → ℕ → List Bool
onwards prefix index zero = prefix
onwards prefix index (suc n) = onwards (child prefix (bit_at index (length prefix))) index n

-- the path from the node of a prefix: what it carries up is the node's hash
abbrev pub Climbs : {B : Type 0} → Hashing → List Bool → List ℕ → List (Entry B) → Type 0
Climbs by p j es =
    climb by.hash j (length p) (siblings by p j es) (node by (onwards p j (length (siblings by p j es))) (end_of p j es)) ≡ node by p es

climbs-few : {B : Type 0} (by : Hashing) (p : List Bool) (j : List ℕ) (es : List (Entry B)) → siblings by p j es ≡ [] → end_of p j es ≡ es → Climbs by p j es
climbs-few by p j es none end = rw (none, end) refl

-- what is climbed below a level is the node of the side on the way
climb-below : {B : Type 0} (by : Hashing) (p : List Bool) (j : List ℕ) (es : List (Entry B)) (b : Bool)
    → bit_at j (length p) ≡ b → Climbs by (child p b) j (half b (length p) es)
    → let ss = siblings by (child p b) j (half b (length p) es) in
    climb by.hash j (suc (length p)) ss (node by (onwards (child p (bit_at j (length p))) j (length ss)) (end_of (child p b) j (half b (length p) es))) ≡
    node by (child p b) (half b (length p) es)
climb-below by p j es b is ih =
    let ss = siblings by (child p b) j (half b (length p) es) in
    let at : (k : ℕ) (c : Bool) → List ℕ = λ k c. climb by.hash j k ss (node by (onwards (child p c) j (length ss)) (end_of (child p b) j (half b (length p) es))) in
    ap (at (suc (length p))) is ∙ ap (λ k. at k b) (sym (length-child p b)) ∙ ih

climbs-many : {B : Type 0} (by : Hashing) (p : List Bool) (j : List ℕ) (es : List (Entry B)) (b : Bool) → bit_at j (length p) ≡ b → length p < 256 → 2 ≤ length es
    → Climbs by (child p b) j (half b (length p) es) → Climbs by p j es
climbs-many by p j es true is short many ih =
    rw (siblings-inner by p j es true is short many, end_of-inner p j es true is short many, is, node-inner by p es short many)
    (ap (λ x. by.hash (inner_preimage (node by (child p false) (half false (length p) es)) x)) (climb-below by p j es true is ih))
climbs-many by p j es false is short many ih =
    rw (siblings-inner by p j es false is short many, end_of-inner p j es false is short many, is, node-inner by p es short many)
    (ap (λ x. by.hash (inner_preimage x (node by (child p true) (half true (length p) es)))) (climb-below by p j es false is ih))

pub climbs : {B : Type 0} (by : Hashing) (h : ℕ) (p : List Bool) (j : List ℕ) (es : List (Entry B)) → length p + h ≡ 256 → AreApart (length p) es → Climbs by p j es
climbs {B} by h p j [] full apart = climbs-few {B = B} by p j [] (siblings-empty _ by p j) (end_of-empty p j)
climbs by h p j (e ∷ []) full apart = climbs-few by p j (e ∷ []) (siblings-leaf by p j e) (end_of-leaf p j e)
climbs by zero p j (e ∷ f ∷ es) full apart =
    let last : length p ≡ 256 = omega arith in
    let few = apart-last (e ∷ f ∷ es) (subst (λ k. AreApart k (e ∷ f ∷ es)) last apart) in absurd (omega (arith, few))
climbs by (suc h) p j (e ∷ f ∷ es) full apart =
    let b = bit_at j (length p) in
    let deeper = length-child p b in
    let short : length p < 256 = omega arith in
    climbs-many by p j (e ∷ f ∷ es) b refl short (omega arith)
    (climbs by h (child p b) j (half b (length p) (e ∷ f ∷ es)) (omega (arith, deeper))
    (subst (λ k. AreApart k (half b (length p) (e ∷ f ∷ es))) (sym deeper) (apart-halves b (length p) (e ∷ f ∷ es) short apart)))
