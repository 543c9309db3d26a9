-- What the node at a prefix is, by the number of its entries.
use Rattle.std.proofs.Common.{◌≡◌, ℕ, suc, ◌-◌, ◌<◌, ◌≤◌, List, [], ◌∷◌, length, Bool, true, false, refl, sym, ap, ◌∙◌, arith, length-append, not}
use Rattle.coniks_proof.specs.Bits.{bit_at, child}
use Rattle.coniks_proof.specs.Entries.{Entry, half}
use Rattle.coniks_proof.specs.Hashing.{Hashing}
use Rattle.coniks_proof.specs.Preimages.{empty_preimage, leaf_preimage, inner_preimage}
use Rattle.coniks_proof.specs.Tree.{node_below, node}
use Rattle.coniks_proof.specs.Paths.{siblings_below, siblings, end_below, end_of}

pub length-child : (p : List Bool) (b : Bool) → length (child p b) ≡ suc (length p)
length-child p b = omega (arith, length-append p (b ∷ []))

pub node-empty : (B : Type 0) (by : Hashing) (p : List Bool) → node {B = B} by p [] ≡ by.hash (empty_preimage by.nonce p)
unfolding node node_below
node-empty B by p = refl

pub node-leaf : {B : Type 0} (by : Hashing) (p : List Bool) (e : Entry B) → node by p (e ∷ []) ≡ by.hash (leaf_preimage by.nonce e.index (length p) e.commitment)
unfolding node node_below
node-leaf by p e = refl

node_below-inner : {B : Type 0} (by : Hashing) (h : ℕ) (p : List Bool) (es : List (Entry B)) → 2 ≤ length es
    → node_below by (suc h) p es ≡ by.hash (inner_preimage (node_below by h (child p false) (half false (length p) es)) (node_below by h (child p true) (half true (length p) es)))
unfolding node_below
node_below-inner by h p [] many = absurd (omega arith)
node_below-inner by h p (e ∷ []) many = absurd (omega arith)
node_below-inner by h p (e ∷ f ∷ es) many = refl

pub node-inner : {B : Type 0} (by : Hashing) (p : List Bool) (es : List (Entry B)) → length p < 256 → 2 ≤ length es
    → node by p es ≡ by.hash (inner_preimage (node by (child p false) (half false (length p) es)) (node by (child p true) (half true (length p) es)))
unfolding node
node-inner by p es short many =
    let here : 256 - length p ≡ suc (255 - length p) = omega arith in
    let left : 256 - length (child p false) ≡ 255 - length p = omega (arith, length-child p false) in
    let right : 256 - length (child p true) ≡ 255 - length p = omega (arith, length-child p true) in
    ap (λ h. node_below by h p es) here ∙ node_below-inner by (255 - length p) p es many
    ∙ ap (λ h. by.hash (inner_preimage (node_below by h (child p false) (half false (length p) es)) (node_below by (255 - length p) (child p true) (half true (length p) es)))) (sym left)
    ∙ ap (λ h. by.hash (inner_preimage (node_below by (256 - length (child p false)) (child p false) (half false (length p) es))
    (node_below by h (child p true) (half true (length p) es)))) (sym right)

siblings_below-inner : {B : Type 0} (by : Hashing) (h : ℕ) (p : List Bool) (j : List ℕ) (es : List (Entry B)) (b : Bool) → bit_at j (length p) ≡ b → 2 ≤ length es
    → siblings_below by (suc h) p j es ≡ node by (child p (not b)) (half (not b) (length p) es) ∷ siblings_below by h (child p b) j (half b (length p) es)
unfolding siblings_below
siblings_below-inner by h p j [] b is many = absurd (omega arith)
siblings_below-inner by h p j (e ∷ []) b is many = absurd (omega arith)
siblings_below-inner by h p j (e ∷ f ∷ es) b is many =
    ap (λ c. node by (child p (not c)) (half (not c) (length p) (e ∷ f ∷ es)) ∷ siblings_below by h (child p c) j (half c (length p) (e ∷ f ∷ es))) is

pub siblings-inner : {B : Type 0} (by : Hashing) (p : List Bool) (j : List ℕ) (es : List (Entry B)) (b : Bool) → bit_at j (length p) ≡ b → length p < 256 → 2 ≤ length es
    → siblings by p j es ≡ node by (child p (not b)) (half (not b) (length p) es) ∷ siblings by (child p b) j (half b (length p) es)
unfolding siblings
siblings-inner by p j es b is short many =
    let here : 256 - length p ≡ suc (255 - length p) = omega arith in
    let below : 256 - length (child p b) ≡ 255 - length p = omega (arith, length-child p b) in
    ap (λ h. siblings_below by h p j es) here ∙ siblings_below-inner by (255 - length p) p j es b is many
    ∙ ap (λ h. node by (child p (not b)) (half (not b) (length p) es) ∷ siblings_below by h (child p b) j (half b (length p) es)) (sym below)

pub siblings-empty : (B : Type 0) (by : Hashing) (p : List Bool) (j : List ℕ) → siblings {B = B} by p j [] ≡ []
unfolding siblings siblings_below
siblings-empty B by p j = refl

pub siblings-leaf : {B : Type 0} (by : Hashing) (p : List Bool) (j : List ℕ) (e : Entry B) → siblings by p j (e ∷ []) ≡ []
unfolding siblings siblings_below
siblings-leaf by p j e = refl

end_below-inner : {B : Type 0} (h : ℕ) (p : List Bool) (j : List ℕ) (es : List (Entry B)) (b : Bool)
    → bit_at j (length p) ≡ b → 2 ≤ length es → end_below (suc h) p j es ≡ end_below h (child p b) j (half b (length p) es)
unfolding end_below
end_below-inner h p j [] b is many = absurd (omega arith)
end_below-inner h p j (e ∷ []) b is many = absurd (omega arith)
end_below-inner h p j (e ∷ f ∷ es) b is many = ap (λ c. end_below h (child p c) j (half c (length p) (e ∷ f ∷ es))) is

pub end_of-inner : {B : Type 0} (p : List Bool) (j : List ℕ) (es : List (Entry B)) (b : Bool)
    → bit_at j (length p) ≡ b → length p < 256 → 2 ≤ length es → end_of p j es ≡ end_of (child p b) j (half b (length p) es)
unfolding end_of
end_of-inner p j es b is short many =
    let here : 256 - length p ≡ suc (255 - length p) = omega arith in
    let below : 256 - length (child p b) ≡ 255 - length p = omega (arith, length-child p b) in
    ap (λ h. end_below h p j es) here ∙ end_below-inner (255 - length p) p j es b is many ∙ ap (λ h. end_below h (child p b) j (half b (length p) es)) (sym below)

pub end_of-empty : {B : Type 0} (p : List Bool) (j : List ℕ) → end_of {B = B} p j [] ≡ []
unfolding end_of end_below
end_of-empty p j = refl

pub end_of-leaf : {B : Type 0} (p : List Bool) (j : List ℕ) (e : Entry B) → end_of p j (e ∷ []) ≡ e ∷ []
unfolding end_of end_below
end_of-leaf p j e = refl
