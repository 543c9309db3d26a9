-- The entries under a prefix, and under the prefixes below.
use Rattle.std.proofs.Common.{◌≡◌, ℕ, suc, ◌+◌, List, [], ◌∷◌, length, Bool, ap, ◌∙◌, arith}
use Rattle.coniks_proof.specs.Bits.{child}
use Rattle.coniks_proof.specs.Entries.{Entry, half, under_from, under}

under_from-child : {B : Type 0} (k : ℕ) (p : List Bool) (b : Bool) (es : List (Entry B)) → under_from k (child p b) es ≡ half b (k + length p) (under_from k p es)
under_from-child k [] b es = let here : k ≡ k + 0 = omega arith in ap (λ n. half b n es) here
under_from-child k (c ∷ p) b es =
    let there : suc k + length p ≡ k + suc (length p) = omega arith in
    under_from-child (suc k) p b (half c k es) ∙ ap (λ n. half b n (under_from (suc k) p (half c k es))) there

pub under-child : {B : Type 0} (p : List Bool) (b : Bool) (es : List (Entry B)) → under (child p b) es ≡ half b (length p) (under p es)
under-child p b es = let here : 0 + length p ≡ length p = omega arith in under_from-child 0 p b es ∙ ap (λ n. half b n (under p es)) here
