-- What the calls on a client's arrays rest on.
use Rattle.std.proofs.Common.{◌≡◌, ◌≤◌, ◌++◌, ◌∙◌, ℕ, List, length, take, drop, sym, ap}
use Rattle.std.proofs.Math.Seq.{take-append_seam}
use Rattle.std.proofs.lemmas.List.{length-take-le}

-- the first elements, after they were written in front of the others
pub put-back : {X : Type 0} (n : ℕ) (old new : List X) → n ≤ length old → length new ≡ length (take n old) → take n (new ++ drop n old) ≡ new
put-back n old new within size =
    ap (λ (k : ℕ). take k (new ++ drop n old)) (sym (size ∙ length-take-le n old within)) ∙ take-append_seam new (drop n old)
